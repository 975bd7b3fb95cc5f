use Rattle.gz_data.specs.Own.{digest_at}
use Rattle.gz_data.specs.Records.{fragment_at}
use Rattle.gz_data.proofs.Whole.{whole_is, is_whole}
use Rattle.gz_data.proofs.whole_piece_is.Goals as goal

pub returns : goal.returns
returns c key x i bytes piece = (
  λ e. let w = whole_is (fragment_at key x i) (digest_at x i) bytes piece e in (w.has_digest, w.spelled, w.wide),
  λ w. is_whole (fragment_at key x i) (digest_at x i) bytes piece (record { has_digest = w.0; spelled = w.1; wide = w.2 }),
)
