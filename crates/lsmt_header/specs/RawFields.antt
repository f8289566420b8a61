-- The fields that the program read, as a contract sees them.
use Rattle.lsmt_header.specs.declared.fields.Fields.{Fields}
use Rattle.lsmt_header.specs.Blocks.{RawHead}

abbrev pub raw_in : Fields → RawHead
raw_in f = record {
  magic = f.magic.now;
  version = f.version;
  flags = f.flags;
  index_at = f.index_at;
  rows = f.rows;
  sectors = f.sectors;
  uuid = f.uuid.now;
  parent = f.parent.now;
  tag = f.tag.now;
  rest = f.rest.now;
}
