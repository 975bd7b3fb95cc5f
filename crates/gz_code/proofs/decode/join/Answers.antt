use Rattle.std.proofs.Common.{◌∙◌, ap, Err}
use Rattle.std.proofs.lemmas.Result.{err_from_is_err_and}
use Rattle.gz_code.proofs.Decoded.{gives_back}
use Rattle.gz_code.proofs.Refusals.{refusal_unique, nothing_refused}
use Rattle.gz_code.proofs.decode.join.Goals as goal

pub returns-in_err-check-clause-refused : goal.returns-in_err-check-clause-refused
returns-in_err-check-clause-refused c e r =
    let p = err_from_is_err_and c.from_residual.result c.from_residual.ensures.1 in
    p.1 ∙ ap Err (p.2 ∙ refusal_unique c.args.k c.args.m c.args.len c.args.pieces.now _ e c.in_err-check.ensures.refused r)

pub returns-in_err-object-clause-refused : goal.returns-in_err-object-clause-refused
returns-in_err-object-clause-refused c e r =
    let accepted = c.in_ok-check.ensures.accepted in
    absurd (nothing_refused c.args.k c.args.m c.args.len c.args.pieces.now e accepted.0 accepted.1 accepted.2 accepted.3 r)

pub returns-clause-refused : goal.returns-clause-refused
returns-clause-refused c e r =
    let accepted = c.in_ok-check.ensures.accepted in
    absurd (nothing_refused c.args.k c.args.m c.args.len c.args.pieces.now e accepted.0 accepted.1 accepted.2 accepted.3 r)

pub returns-clause-gives_back : goal.returns-clause-gives_back
returns-clause-gives_back c object all S long among =
    let accepted = c.in_ok-check.ensures.accepted in
    gives_back c.args.k c.args.m c.args.len c.args.pieces.now object c.in_ok-object.object.items all c.requires.within_field c.requires.at_least_one accepted.3 accepted.0 accepted.1 c.in_ok-object.ensures S long among
