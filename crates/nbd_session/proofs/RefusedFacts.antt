-- The definitions compute the connection in which requests are refused.
use Rattle.std.proofs.Common.{refl}
use Rattle.nbd_wire.specs.Hellos.{server_hello}
use Rattle.nbd_wire.specs.Infos.{info_name, number_in, info_export_bytes, info_block_size_bytes}
use Rattle.nbd_wire.specs.Options.{option_at, option_bytes, option_reply_bytes}
use Rattle.nbd_wire.specs.Requests.{request_at, request_bytes, simple_reply_bytes}
use Rattle.nbd_session.specs.Jobs.{job_of}
use Rattle.nbd_session.specs.Options.{short_answer}
use Rattle.nbd_session.specs.Talks.{with_job, with_refusal, after_request, one_request, transmission, after_option, with_head, options, greeted, talk}
use Rattle.nbd_session.specs.RefusedExamples.{Refusals}

pub refusals : Refusals
unfolding server_hello info_name number_in info_export_bytes info_block_size_bytes option_at option_bytes option_reply_bytes request_at request_bytes simple_reply_bytes job_of short_answer with_job with_refusal after_request one_request transmission after_option with_head options greeted talk
refusals = record { requests = refl; sealed_image = refl; option = refl }
