-- The definitions compute the connections that were worked out by hand.
use Rattle.std.proofs.Common.{refl}
use Rattle.nbd_wire.specs.Hellos.{server_hello}
use Rattle.nbd_wire.specs.Infos.{info_name, number_in, info_export_bytes, info_block_size_bytes}
use Rattle.nbd_wire.specs.Options.{option_at, option_bytes, option_reply_bytes, name_reply_bytes}
use Rattle.nbd_wire.specs.Requests.{request_at, request_bytes, simple_reply_bytes}
use Rattle.nbd_session.specs.Jobs.{job_of}
use Rattle.nbd_session.specs.Options.{long_answer, short_answer}
use Rattle.nbd_session.specs.Talks.{with_job, with_refusal, after_request, one_request, transmission, after_option, with_head, options, greeted, talk}
use Rattle.nbd_session.specs.Examples.{OneRead, FirstChecks, EndsSoon}

pub one_read : OneRead
unfolding server_hello info_name number_in info_export_bytes info_block_size_bytes option_at option_reply_bytes name_reply_bytes request_at simple_reply_bytes job_of long_answer short_answer with_job with_refusal after_request one_request transmission after_option with_head options greeted talk
one_read = record { long_in = refl; long_out = refl; talks = refl }

pub first_checks : FirstChecks
unfolding job_of
first_checks = record
    { no_sectors = refl; read_past = refl; write_past = refl; nothing = refl; unknown = refl; flag = refl; no_hole = refl; sealed_image = refl }

pub ends_soon : EndsSoon
unfolding server_hello info_name number_in info_export_bytes info_block_size_bytes option_at option_bytes option_reply_bytes name_reply_bytes request_at request_bytes simple_reply_bytes job_of long_answer short_answer with_job with_refusal after_request one_request transmission after_option with_head options greeted talk
ends_soon = record { cut = refl; long = refl; lists = refl; other = refl }
