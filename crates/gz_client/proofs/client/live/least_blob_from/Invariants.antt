use Rattle.gz_client.proofs.Kept.{AreLower}
use Rattle.gz_client.proofs.client.live.least_blob_from.Given as goal

abbrev pub invariant-loop-blob : goal.invariant-loop-blob
invariant-loop-blob l = AreLower l.blobs l.low l.blob-index
