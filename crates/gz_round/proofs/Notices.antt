-- Which actions tell a site that a value is chosen.
use Rattle.std.proofs.Common.{◌≡◌, ◌≢◌, ℕ, Bool, true, false, ◌&&◌, not, List, [], ◌∷◌, refl, sym, ap, ◌∙◌, inl, inr}
use Rattle.std.proofs.lemmas.Bool.{true≢false, and_from, and_right}
use Rattle.gz_core.specs.History.{Asked, Action, Sent, Handed, GaveUp, Rested, GaveIn, is_row_request}
use Rattle.gz_round.specs.Counting.{IsUntold, IsUnnoticed}
use Rattle.gz_round.specs.Sites.{is_about_rows}

-- whether an action sends a request for a row that nobody awaits
abbrev pub tells : Action → Bool
tells (Sent a) = is_row_request a.op && not a.awaited
tells m = false

abbrev site_in : Action → ℕ
site_in (Sent a) = a.site
site_in m = 0

untold_more : (m : Action) (ms : List Action) (s : ℕ) → tells m ≡ false → IsUntold ms s → IsUntold (m ∷ ms) s
untold_more m ms s e h op about notice =
    elim notice.1 [
      | inl sent ↦ absurd (true≢false (sym (ap tells sent ∙ and_from (is_row_request op) true about refl) ∙ e))
      | inr before ↦ h op about (notice.0, before)
    ]

-- where no action tells a site, none got notice
pub unnoticed_more : (m : Action) (ms : List Action) → tells m ≡ false → IsUnnoticed ms → IsUnnoticed (m ∷ ms)
unnoticed_more m ms e h s = untold_more m ms s e (h s)

-- a request to another site tells this one nothing
pub untold_other : (a : Asked) (ms : List Action) (s : ℕ) → s ≢ a.site → IsUntold ms s → IsUntold (Sent a ∷ ms) s
untold_other a ms s n h op about notice =
    elim notice.1 [
      | inl sent ↦ absurd (n (sym (ap site_in sent)))
      | inr before ↦ h op about (notice.0, before)
    ]

-- what is awaited tells nothing
pub awaited_tells : (a : Asked) → a.awaited ≡ true → tells (Sent a) ≡ false
awaited_tells a e = and_right (is_row_request a.op) (not a.awaited) (ap not e)

-- nor does a request for a blob
pub blob_tells : (m : Action) → is_about_rows m ≡ false → tells m ≡ false
blob_tells (Sent a) e = ap (λ b. b && not a.awaited) e
blob_tells (Handed a reply) e = refl
blob_tells (GaveUp a) e = refl
blob_tells Rested e = refl
blob_tells GaveIn e = refl

pub none_noticed : IsUnnoticed []
none_noticed s op about notice = notice.1
