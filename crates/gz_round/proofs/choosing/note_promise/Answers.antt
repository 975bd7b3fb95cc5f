use Rattle.std.proofs.Common.{◌+◌, sym, subst, refl}
use Rattle.std.proofs.lemmas.Result.{on_ok_weaker}
use Rattle.gz_pick.specs.declared.heard.Heard.{Heard}
use Rattle.gz_round.specs.Choosing.{AreHeardIn}
use Rattle.gz_round.proofs.Proposals.{heard_skip, heard_push}
use Rattle.gz_round.proofs.choosing.note_promise.Goals as goal

pub returns-in-None : goal.returns-in-None
returns-in-None c = λ k rows l e h. heard_skip k rows c.args.version c.args.ballot c.args.heard.now c.args.at c.args.row.now e (sym c.in-None.ensures) h

pub returns-in-Some : goal.returns-in-Some
returns-in-Some c =
    let one : Heard = record { site = c.args.at; vote = c.in-Some.vote } in
    on_ok_weaker c.push.result (λ new. λ k rows l e h.
    subst (λ hs. AreHeardIn k rows c.args.version c.args.ballot hs (c.args.at + 1)) (sym new) (heard_push k rows c.args.version c.args.ballot c.args.heard.now one c.args.at c.args.row.now l e refl (sym c.in-Some.ensures) h)) c.push.ensures.ok
