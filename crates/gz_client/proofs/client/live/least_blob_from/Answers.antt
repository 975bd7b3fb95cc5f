use Rattle.std.proofs.Common.{arith}
use Rattle.std.proofs.lemmas.Option.{slice_get-get_or}
use Rattle.gz_client.proofs.Kept.{lower_more, all_lower, first_least}
use Rattle.gz_client.proofs.client.live.least_blob_from.Goals as goal

pub returns-then-low-from : goal.returns-then-low-from
returns-then-low-from c = λ rising. first_least c.args.blobs.now c.args.low c.loop-blob.blob-index _ rising (slice_get-get_or c.args.blobs.now c.loop-blob.blob-index _ (omega arith)) (omega arith) c.loop-blob.invariant

pub loop-blob-preserved : goal.loop-blob-preserved
loop-blob-preserved c = lower_more c.args.blobs.now c.args.low c.loop-blob.blob-index _ (slice_get-get_or c.args.blobs.now c.loop-blob.blob-index (record { number = 0; index = 0 }) (omega arith)) (omega arith) c.loop-blob.invariant

pub returns : goal.returns
returns c = λ rising. all_lower c.args.blobs.now c.args.low c.loop-blob.blob-index (omega arith) c.loop-blob.invariant
