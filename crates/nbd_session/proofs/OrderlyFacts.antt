-- The client that reads one sector is in order.
use Rattle.std.proofs.Common.{[], ◌∷◌, take, drop, true, refl, inr, arith}
use Rattle.std.proofs.lemmas.List.Elements.{All-nil, All-cons}
use Rattle.nbd_wire.specs.declared.request.Request.{Request}
use Rattle.nbd_wire.specs.Infos.{info_name, number_in}
use Rattle.nbd_wire.specs.Options.{option_bytes}
use Rattle.nbd_wire.specs.Requests.{request_bytes}
use Rattle.nbd_session.specs.declared.job.Job.TheVariants.{Read}
use Rattle.nbd_session.specs.Jobs.{job_of}
use Rattle.nbd_session.specs.Options.{short_answer}
use Rattle.nbd_session.specs.Examples.{img, one_read_in}
use Rattle.nbd_session.specs.Completeness.{Offer, Message, IsProper, IsOrderly}

abbrev go : Offer
go = record { bytes = take 22 (drop 4 one_read_in); head = record { option = 7; length = 6 }; items = 0 ∷ 0 ∷ 0 ∷ 0 ∷ 0 ∷ 0 ∷ [] }

abbrev asked : Request
asked = record { flags = 0; command = 0; cookie = 1; offset = 0; length = 512 }

abbrev message : Message
message = record { bytes = take 28 (drop 26 one_read_in); request = asked; items = [] }

abbrev goodbye : Request
goodbye = record { flags = 0; command = 2; cookie = 2; offset = 0; length = 0 }

proper : IsProper img 4 message
unfolding request_bytes job_of
proper = record {
  is = record {
    front = message.bytes;
    head_is = record { spelled = refl; flags = omega arith; command = omega arith; cookie = omega arith; offset = omega arith; length = omega arith };
    spelled = refl;
    whole = refl;
  };
  small = omega arith;
  job = Read 0 1;
  asks = refl;
}

pub one_read_is_orderly : IsOrderly img 4 one_read_in
unfolding option_bytes request_bytes info_name number_in short_answer
one_read_is_orderly = record {
  word = take 4 one_read_in;
  hello = record { no_zeroes = true };
  options = go ∷ [];
  requests = message ∷ [];
  tail = drop 54 one_read_in;
  is = refl;
  hello_is = refl;
  options_are = (record { front = take 16 go.bytes; head_is = record { spelled = refl; option = omega arith; length = omega arith }; spelled = refl; whole = refl }, refl);
  few = omega arith;
  requests_are = All-cons (IsProper img 4) message [] proper (All-nil (IsProper img 4));
  many = omega arith;
  goodbye = inr (
    goodbye,
    record {
      front = drop 54 one_read_in;
      head_is = record { spelled = refl; flags = omega arith; command = omega arith; cookie = omega arith; offset = omega arith; length = omega arith };
      spelled = refl;
      whole = refl;
    },
    refl,
  );
}
