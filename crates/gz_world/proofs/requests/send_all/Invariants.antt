use Rattle.std.proofs.Common.{◌≡◌, ◌+◌, ◌++◌, length, map}
use Rattle.std.specs.Prelude.{vec_len, vec_capacity}
use Rattle.gz_world.specs.States.{request_of, sent_requests}
use Rattle.gz_world.proofs.requests.send_all.Given as goal

abbrev pub invariant-loop-out : goal.invariant-loop-out
invariant-loop-out l = record {
  net : map request_of l.net.items ≡ map request_of l.initial.net.items ++ sent_requests l.name l.tick l.yielded;
  len : vec_len l.net ≡ vec_len l.initial.net + length l.yielded;
  capacity : vec_capacity l.net ≡ vec_capacity l.initial.net;
}
