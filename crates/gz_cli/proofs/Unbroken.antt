-- A legal history is broken nowhere.
use Rattle.std.proofs.Common.{◌≡◌, ℕ, List, Some, inl, inr, slice_get, Contains}
use Rattle.std.proofs.lemmas.Option.{slice_get_within, get_or_from_slice_get}
use Rattle.gz_history.specs.Legal.{IsLegal, EachTwo, Agree, TakeEffectOnce, KeepOrder, ReturnWritten}
use Rattle.gz_history.specs.Broken.{AreBroken, BreaksFirst, LacksSource, ReturnsOtherFirst, StraysFirst, IsFirstBroken}
use Rattle.gz_history.specs.declared.legality.Broken.{Broken}
use Rattle.gz_history.specs.declared.record.CallRec.{CallRec}

-- what is read at a place of a history is in it
read_contains : (calls : List CallRec) (i : ℕ) (a : CallRec) → slice_get calls i ≡ Some a → Contains calls a
read_contains calls i a is = (i, slice_get_within calls i a is, get_or_from_slice_get calls i a a is)

kept_unbroken : (R : CallRec → CallRec → Type 0) (clause : ℕ) (calls : List CallRec) (i j : ℕ) (broken : Broken) → EachTwo R calls → AreBroken R clause calls i j broken → ⊥
kept_unbroken R clause calls i j broken keeps two =
    two.broke.breaks (keeps two.a two.b (read_contains calls i two.a two.first_is) (read_contains calls j two.b two.second_is) two.broke.key)

kept_never_first : (R : CallRec → CallRec → Type 0) (clause : ℕ) (calls : List CallRec) (broken : Broken) → EachTwo R calls → BreaksFirst R clause calls broken → ⊥
kept_never_first R clause calls broken keeps (i, (before, (j, (above, (between, two))))) = kept_unbroken R clause calls i j broken keeps two

returned_never_first : (calls : List CallRec) (broken : Broken) → EachTwo ReturnWritten calls → ReturnsOtherFirst calls broken → ⊥
returned_never_first calls broken keeps (i, (before, (j, (up_to, two)))) = kept_unbroken ReturnWritten 5 calls i j broken keeps two

sourced_never_lacks : (calls : List CallRec) (broken : Broken) → IsLegal calls → LacksSource calls broken → ⊥
sourced_never_lacks calls broken legal lacks =
    let source = legal.sources lacks.a (read_contains calls lacks.i lacks.a lacks.reader) lacks.x lacks.missing.reads in
    lacks.missing.none source.0 source.1.0 source.1.1

asked_never_strays : (calls : List CallRec) (broken : Broken) → IsLegal calls → StraysFirst calls broken → ⊥
asked_never_strays calls broken legal strays = strays.strays (legal.asked strays.a (read_contains calls strays.i strays.a strays.reader))

-- no clause is the first that a legal history breaks
pub legal_is_unbroken : (calls : List CallRec) (broken : Broken) → IsLegal calls → IsFirstBroken calls broken → ⊥
legal_is_unbroken calls broken legal (inl one) = kept_never_first Agree 1 calls broken legal.agreement one
legal_is_unbroken calls broken legal (inr (inl two)) = kept_never_first TakeEffectOnce 2 calls broken legal.once two.1
legal_is_unbroken calls broken legal (inr (inr (inl three))) = kept_never_first KeepOrder 3 calls broken legal.order three.2
legal_is_unbroken calls broken legal (inr (inr (inr (inl four)))) = sourced_never_lacks calls broken legal four.3
legal_is_unbroken calls broken legal (inr (inr (inr (inr (inl five))))) = returned_never_first calls broken legal.values five.4
legal_is_unbroken calls broken legal (inr (inr (inr (inr (inr six))))) = asked_never_strays calls broken legal six.5
