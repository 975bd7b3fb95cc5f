-- How an event closes: by nothing more, by every site going out, or by the row requests resting.
use Rattle.std.proofs.Common.{◌≡◌, inl, inr, List, ◌∷◌, ◌++◌, ap, sym, subst}
use Rattle.gz_config.specs.declared.Config.{Config}
use Rattle.gz_core.specs.History.{Action, Rested, GaveIn, Caller, Trace}
use Rattle.gz_core.specs.Slots.{Act}
use Rattle.gz_client.specs.Traces.{IsClosed}
use Rattle.gz_round.specs.Sending.{AreAllowed}
use Rattle.gz_laws.specs.Begun.{sends_of}
use Rattle.gz_laws.specs.Heard.{SentStep}

pub closing_keeps : (P : List Action → Type 0) (closing ms : List Action) → IsClosed closing → P ms → P (GaveIn ∷ ms) → P (Rested ∷ ms) → P (closing ++ ms)
closing_keeps P closing ms (inl (inl e)) h gave rested = subst (λ ks. P (ks ++ ms)) (sym e) h
closing_keeps P closing ms (inl (inr e)) h gave rested = subst (λ ks. P (ks ++ ms)) (sym e) gave
closing_keeps P closing ms (inr e) h gave rested = subst (λ ks. P (ks ++ ms)) (sym e) rested

pub closing_drops : (P : List Action → Type 0) (closing ms : List Action) → IsClosed closing → (P (GaveIn ∷ ms) → P ms) → (P (Rested ∷ ms) → P ms) → P (closing ++ ms) → P ms
closing_drops P closing ms (inl (inl e)) gave rested h = subst (λ ks. P (ks ++ ms)) e h
closing_drops P closing ms (inl (inr e)) gave rested h = gave (subst (λ ks. P (ks ++ ms)) e h)
closing_drops P closing ms (inr e) gave rested h = rested (subst (λ ks. P (ks ++ ms)) e h)

pub closing_allowed : (c : Config) (w : Caller) (past : List Trace) (closing ms : List Action) → IsClosed closing → AreAllowed c w past (closing ++ ms) → AreAllowed c w past ms
closing_allowed c w past closing ms closed h = closing_drops (AreAllowed c w past) closing ms closed (λ k. k.1) (λ k. k.1) h

-- it sends nothing,
pub closing_sent : (closing ms : List Action) (act : Act) → IsClosed closing → SentStep ms act → SentStep (closing ++ ms) act
closing_sent closing ms act closed h = closing_keeps (λ ks. SentStep ks act) closing ms closed h (inr h) (inr h)

-- and begins no write
pub closing_sends : (closing ms : List Action) → IsClosed closing → sends_of (closing ++ ms) ≡ sends_of ms
closing_sends closing ms (inl (inl e)) = ap (λ ks. sends_of (ks ++ ms)) e
closing_sends closing ms (inl (inr e)) = ap (λ ks. sends_of (ks ++ ms)) e
closing_sends closing ms (inr e) = ap (λ ks. sends_of (ks ++ ms)) e
