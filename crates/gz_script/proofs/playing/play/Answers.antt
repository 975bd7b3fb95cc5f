use Rattle.std.proofs.Common.{map}
use Rattle.gz_world.specs.States.{request_of}
use Rattle.gz_script.specs.Plays.{Plays, PlaysInPart, ChangesBy}
use Rattle.gz_script.proofs.LineLemmas.{play_more, play_stops, play_ends}
use Rattle.gz_script.proofs.Listing.{list_later}
use Rattle.gz_script.proofs.Growing.{changes_keep}
use Rattle.gz_script.proofs.Keeping.{lines_keep, lines_part_keep}
use Rattle.gz_script.proofs.PlayLemmas.{if_err_of}
use Rattle.gz_script.proofs.Reaching.{step_reaches, changes_reached}
use Rattle.gz_world.specs.Reached.{IsReached}
use Rattle.gz_script.proofs.playing.play.Goals as goal

pub returns-in_err-play_line-clause-part : goal.returns-in_err-play_line-clause-part
returns-in_err-play_line-clause-part g c =
    let error = c.in_err-play_line.field-0.0 in
    if_err_of c.from_residual.result error (λ e. ChangesBy g.S.Site.told (PlaysInPart e c.args.lines.now) c.args.world.now c.play_line.new.world) c.from_residual.ensures.1
    (play_stops g.S.Site.told error c.args.world.now c.loop-line.world c.play_line.new.world c.args.lines.now c.loop-line.line-index c.line-item.result c.loop-line-test.true c.line-item.is
    c.loop-line.invariant.plays c.in_err-play_line.ensures.part)

pub returns-in_err-play_line-clause-reached : goal.returns-in_err-play_line-clause-reached
returns-in_err-play_line-clause-reached g c =
    let error = c.in_err-play_line.field-0.0 in
    changes_reached g.S.Site.told (PlaysInPart error c.args.lines.now) c.args.world.now c.play_line.new.world (lines_part_keep IsReached step_reaches error c.args.lines.now)
    (play_stops g.S.Site.told error c.args.world.now c.loop-line.world c.play_line.new.world c.args.lines.now c.loop-line.line-index c.line-item.result c.loop-line-test.true c.line-item.is
    c.loop-line.invariant.plays c.in_err-play_line.ensures.part)

pub loop-line-preserved : goal.loop-line-preserved
loop-line-preserved g c = record {
  fits = c.play_line.ensures.fits;
  listed = list_later c.play_line.new.boxes (map request_of c.loop-line.world.net.items) (map request_of c.play_line.new.world.net.items)
      (changes_keep g.S.Site.told c.loop-line.world c.play_line.new.world c.line-item.result c.loop-line.invariant.fits c.in_ok-play_line.ensures.plays) c.in_ok-play_line.ensures.listed;
  plays = play_more g.S.Site.told c.args.world.now c.loop-line.world c.play_line.new.world c.args.lines.now c.loop-line.line-index c.line-item.result c.loop-line-test.true c.line-item.is
      c.loop-line.invariant.plays c.in_ok-play_line.ensures.plays;
}

pub returns-clause-plays : goal.returns-clause-plays
returns-clause-plays g c = play_ends g.S.Site.told c.args.world.now c.loop-line.world c.args.lines.now c.loop-line.line-index c.loop-line-test.false c.loop-line.invariant.plays

pub returns-clause-reached : goal.returns-clause-reached
returns-clause-reached g c =
    changes_reached g.S.Site.told (Plays c.args.lines.now) c.args.world.now c.loop-line.world (lines_keep IsReached step_reaches c.args.lines.now)
    (play_ends g.S.Site.told c.args.world.now c.loop-line.world c.args.lines.now c.loop-line.line-index c.loop-line-test.false c.loop-line.invariant.plays)
