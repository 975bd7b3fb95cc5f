use Rattle.gz_code.proofs.Growing.{padded_more}
use Rattle.gz_code.proofs.encode.padded.Goals as goal

pub loop-i-preserved : goal.loop-i-preserved
loop-i-preserved c = padded_more c.args.bytes.now c.loop-i.piece.items c.push.new.self.items c.loop-i.i c.loop-i.invariant c.loop-i.auto.i c.in_ok-push.ensures.items
