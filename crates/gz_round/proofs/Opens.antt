-- A call that begins reads every site.
use Rattle.std.proofs.Common.{◌≡◌, ℕ, ◌<◌, false, List, Option, Some, None, is_some, inl, refl, sym, ap, ◌∙◌, subst, arith}
use Rattle.std.proofs.lemmas.Option.{none-some}
use Rattle.gz_core.specs.Configurations.{IsConfig}
use Rattle.gz_config.specs.declared.Config.{Config}
use Rattle.gz_core.specs.declared.requests.Out.{Out}
use Rattle.gz_round.specs.declared.run.Run.{Run}
use Rattle.gz_round.specs.declared.run.Stage.TheVariants.{Look}
use Rattle.gz_core.specs.History.{Asked, Action, Caller, Trace, sent_from}
use Rattle.gz_round.specs.Sites.{site_now, known, AreBlobs}
use Rattle.gz_round.specs.Counting.{outs, known_count, IsGoing}
use Rattle.gz_round.specs.Asking.{IsLeftBy}
use Rattle.gz_round.specs.Standing.{Stands, StageStands, IsWaiting, Runs, mark_of}
use Rattle.gz_round.specs.Starting.{AreUnread}
use Rattle.gz_round.specs.Following.{HasAsked, Ready}
use Rattle.gz_round.specs.Goals.{AreServed, IsUnmet, IsFewIn, is_overtaken_in, step_in}
use Rattle.gz_round.proofs.Lists.{count_same}
use Rattle.gz_round.proofs.Blobs.{blobs_site, blobs_met}
use Rattle.gz_round.proofs.Known.{out_after_sent}
use Rattle.gz_round.proofs.Turns.{over_sent, row_sent, earlier_sent, known_sent, going_sent, again_from, stage_kept}
use Rattle.gz_round.proofs.GivingIn.{count_none}

out_sent : (first : ℕ) (sent : List Out) (ms : List Action) (s : ℕ) → (site_now (sent_from first sent ms) s).out ≡ (site_now ms s).out
out_sent first sent ms s = over_sent (λ ns. (site_now ns s).out ≡ (site_now ms s).out) (λ (a : Asked) (ns : List Action) (e : (site_now ns s).out ≡ (site_now ms s).out). sym (out_after_sent a ns s) ∙ e) first sent ms refl

waits_first : (c : Config) (w : Caller) (first : ℕ) (sent : List Out) (ms : List Action) (o : Option Asked) → AreBlobs ms → 0 < c.n → (site_now (sent_from first sent ms) 0).awaits ≡ o → AreServed c w (sent_from first sent ms) None → IsWaiting c (sent_from first sent ms)
waits_first c w first sent ms (Some a) blobs l e served = (0, a, l, e)
waits_first c w first sent ms None blobs l e served =
    let unheard_is = blobs_site ms 0 blobs in
    let k = served 0 l e (out_sent first sent ms 0 ∙ ap (λ now. now.out) unheard_is) in
    absurd (none-some k.0 (sym (row_sent first sent ms 0 ∙ ap (λ now. now.row) unheard_is) ∙ k.1))

none_out : (c : Config) (ms : List Action) → AreBlobs ms → outs c ms ≡ 0
none_out c ms blobs = count_same c.n (λ s. (site_now ms s).out) (λ s. false) (λ (s : ℕ) (l : s < c.n). ap (λ now. now.out) (blobs_site ms s blobs)) ∙ count_none c.n

none_known : (c : Config) (ms : List Action) → AreBlobs ms → known_count c ms ≡ 0
none_known c ms blobs = count_same c.n (λ s. is_some (known (site_now ms s))) (λ s. false) (λ (s : ℕ) (l : s < c.n). ap (λ now. is_some (known now)) (blobs_site ms s blobs)) ∙ count_none c.n

-- nothing is known of any site
pub unread_first : (c : Config) (w : Caller) (past : List Trace) (run : Run) (ms : List Action) → AreBlobs ms → Stands c w past run ms → AreUnread c.n run
unread_first c w past run ms blobs h s l = (h.knows.rows s l ∙ ap (λ now. Some (known now)) (blobs_site ms s blobs), h.knows.marks s l ∙ ap (λ now. Some (mark_of now)) (blobs_site ms s blobs))

-- and awaits what it reads
pub opens : (c : Config) (w : Caller) (past : List Trace) (run new : Run) (ms : List Action) (first : ℕ) (sent : List Out) → IsConfig c → AreBlobs ms → Ready c w past run ms → run.stage ≡ Look → HasAsked c w past new ms (sent_from first sent ms) None → IsLeftBy run new None → Runs c w past new (sent_from first sent ms)
opens c w past run new ms first sent config blobs r look asks left =
    let q = config.quorums in
    let none : outs c ms ≡ 0 = none_out c ms blobs in
    let met_none = blobs_met ms blobs in
    let begins : IsGoing c ms = record { few = omega (arith, config.again); enough = omega (arith, none, q.classic, q.fast) } in
    let s : StageStands c w past Look ms = subst (λ st. StageStands c w past st ms) look r.stage in
    let stage_is : new.stage ≡ Look = left.stage ∙ look in
    let unmet : IsUnmet c new Look (sent_from first sent ms) = (let unknown = none_known c ms blobs in let same = known_sent c first sent ms in inl (omega (arith, config.some, q.majority))) in
    record {
      stands = asks.stands;
      stage = subst (λ st. StageStands c w past st (sent_from first sent ms)) (sym stage_is) (stage_kept c w past run new ms (sent_from first sent ms) Look r.stands asks.stands left (earlier_sent first sent ms) refl s tt tt);
      unmet = inl (subst (λ st. IsUnmet c new st (sent_from first sent ms)) (sym stage_is) unmet);
      few = subst (λ st. IsFewIn c new st) (sym stage_is) tt;
      ahead = subst (λ st. is_overtaken_in new st ≡ false) (sym stage_is) refl;
      again = again_from c w (sent_from first sent ms) None asks.served;
      served = subst (λ st. AreServed c w (sent_from first sent ms) (step_in st new.own)) (sym stage_is) asks.served;
      unnoticed = asks.unnoticed tt;
      going = going_sent c first sent ms begins;
      waits = waits_first c w first sent ms (site_now (sent_from first sent ms) 0).awaits blobs (omega (arith, config.some)) refl asks.served;
    }
