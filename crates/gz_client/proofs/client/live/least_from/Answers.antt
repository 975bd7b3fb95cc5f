use Rattle.std.proofs.Common.{◌∙◌, sym, ap, subst}
use Rattle.std.specs.Option.{option_copied}
use Rattle.gz_client.specs.Lowest.{IsLeastBlobFrom, IsLeastLiveFrom, AreRising}
use Rattle.gz_client.proofs.Kept.{least_of_blobs, least_of_both}
use Rattle.gz_client.proofs.client.live.least_from.Goals as goal

pub returns-in-None : goal.returns-in-None
returns-in-None c = λ rising.
    least_of_blobs c.args.running.now c.args.low c.least_blob_from-blob.result (sym c.rows.ensures ∙ ap option_copied c.in-None.is)
    (subst (λ blobs. IsLeastBlobFrom blobs c.args.low c.least_blob_from-blob.result) c.blobs.ensures (c.least_blob_from-blob.ensures (subst AreRising (sym c.blobs.ensures) rising)))

pub returns-in-Some : goal.returns-in-Some
returns-in-Some c = λ rising.
    subst (IsLeastLiveFrom c.args.running.now c.args.low) (sym c.lower_of.ensures)
    (least_of_both c.args.running.now c.in-Some.run'.now c.args.low c.least_from.result c.least_blob_from-blob.result (sym c.rows.ensures ∙ ap option_copied c.in-Some.is) c.least_from.ensures
    (subst (λ blobs. IsLeastBlobFrom blobs c.args.low c.least_blob_from-blob.result) c.blobs.ensures (c.least_blob_from-blob.ensures (subst AreRising (sym c.blobs.ensures) rising))))
