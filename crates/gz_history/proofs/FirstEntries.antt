-- The first entries of tags: what they say is said under the tag everywhere, but from the start on.
use Rattle.std.proofs.Common.{ℕ, ◌≡◌, ◌+◌, ◌<◌, ◌≤◌, List, length, inl, inr, ◌⊎◌, sym, ap, subst, ◌∙◌, slice_get, get_or, arith}
use Rattle.std.specs.Prelude.{Option, Some, None, option_map, option_and_then}
use Rattle.std.proofs.lemmas.Bool.{cases_lt}
use Rattle.std.proofs.lemmas.Option.{same_Some, slice_get_within, slice_get-get_or}
use Rattle.gz_core.specs.Names.{Name}
use Rattle.gz_core.specs.Calls.{key_of}
use Rattle.gz_history.specs.Answers.{shows, names}
use Rattle.gz_history.specs.Broken.{KeptBefore}
use Rattle.gz_history.specs.Legal.{Agree, TakeEffectOnce}
use Rattle.gz_history.specs.Index.{IsBrought, AreGroups, IsRepeat, IsHeadOf, AreHeads, named_of, versioned_of}
use Rattle.gz_history.specs.Serial.{naming}
use Rattle.gz_history.specs.declared.record.CallRec.{CallRec}

-- something is not nothing
no_some : {A : Type 0} (P : Type 0) (o : Option A) (x : A) → o ≡ None → o ≡ Some x → P
no_some P None x n s = absurd (cc)
no_some P (Some y) x n s = absurd (cc)

-- no places
pub no_heads : {T V : Type 0} (marks : ℕ → Option (T × V)) (start : ℕ) (heads : T → Option (ℕ × V)) → ((t : T) → heads t ≡ None) → AreHeads marks 0 start heads
no_heads marks start heads none = record {
  below = λ t head p. no_some (head.0 < 0) (heads t) head (none t) p;
  each = λ place t said l m. absurd (omega arith);
}

-- one more place, of a call that says nothing
pub heads_more_none : {T V : Type 0} (marks : ℕ → Option (T × V)) (n start : ℕ) (heads : T → Option (ℕ × V)) → marks n ≡ None → AreHeads marks n start heads → AreHeads marks (n + 1) start heads
heads_more_none {T = T} {V = V} marks n start heads none h = record {
  below = λ t head p. let l = h.below t head p in omega arith;
  each = λ place t said l m. elim (cases_lt place n) [
    | inl s ↦ h.each place t said s m
    | inr g ↦ (let e : place ≡ n = omega arith in
        no_some ((head : ℕ × V) × ((heads t ≡ Some head) × IsHeadOf start place said head)) (marks place) (t, said) (ap marks e ∙ none) m)
  ];
}

-- one more place, where what an earlier one says is said
pub heads_more_same : {T V : Type 0} (marks : ℕ → Option (T × V)) (n start earlier : ℕ) (heads : T → Option (ℕ × V)) → earlier < n → marks earlier ≡ marks n → AreHeads marks n start heads → AreHeads marks (n + 1) start heads
heads_more_same {T = T} {V = V} marks n start earlier heads before same h = record {
  below = λ t head p. let l = h.below t head p in omega arith;
  each = λ place t said l m. elim (cases_lt place n) [
    | inl s ↦ h.each place t said s m
    | inr g ↦ (let e : place ≡ n = omega arith in
        let was = h.each earlier t said before (same ∙ ap marks (sym e) ∙ m) in
        let is = was.1.1 in
        let low = is.before in
        (was.0, (was.1.0, record { before = omega arith; same = is.same })))
  ];
}

-- one more place, where something is said of a tag
module _ {T V : Type 0} (marks : ℕ → Option (T × V)) (n start next : ℕ) (old new : T → Option (ℕ × V)) (tag : T) (said : V) (head : ℕ × V)
    (marked : marks n ≡ Some (tag, said)) (b : IsBrought old new tag (n, said) head) (less : next ≤ start) (same : (head.1 ≡ said) ⊎ (next ≤ head.0)) (h : AreHeads marks n start old) where
  came_before : (t : T) (x : ℕ × V) → new t ≡ Some x → x.0 < n + 1
  came_before t x p =
      elim (b.came t x p) [
        | inl was ↦ (let l = h.below t x was in omega arith)
        | inr e ↦ (let f : x.0 ≡ n = ap (λ (y : ℕ × V). y.0) e in omega arith)
      ]

  here : (place : ℕ) (t : T) (v : V) → place ≡ n → marks place ≡ Some (t, v) → (x : ℕ × V) × ((new t ≡ Some x) × IsHeadOf next place v x)
  here place t v e m =
      let pair : ◌≡◌ {A = T × V} (tag, said) (t, v) = same_Some (tag, said) (t, v) (sym marked ∙ ap marks (sym e) ∙ m) in
      let first = came_before tag head b.found in
      subst (λ (q : T × V). (x : ℕ × V) × ((new q.0 ≡ Some x) × IsHeadOf next place q.1 x)) pair
      (head, (b.found, record { before = omega arith; same = same }))

  kept : (place : ℕ) (t : T) (v : V) → place < n → marks place ≡ Some (t, v) → (x : ℕ × V) × ((new t ≡ Some x) × IsHeadOf next place v x)
  kept place t v l m =
      let was = h.each place t v l m in
      let is = was.1.1 in (
        was.0,
        (
          b.grows t was.0 was.1.0,
          record {
            before = is.before;
            same = elim is.same [
              | inl e ↦ inl e
              | inr above ↦ inr (omega arith)
            ];
          },
        ),
      )

  pub heads_more : AreHeads marks (n + 1) next new
  heads_more = record {
    below = came_before;
    each = λ place t v l m. elim (cases_lt place n) [
      | inl s ↦ kept place t v s m
      | inr g ↦ here place t v (omega arith) m
    ];
  }

-- below the start all places say the same of a tag as any place
pub same_said : {T V : Type 0} (marks : ℕ → Option (T × V)) (n start : ℕ) (heads : T → Option (ℕ × V)) → AreHeads marks n start heads
    → (i j : ℕ) (t : T) (v w : V) → i < start → i < n → j < n → marks i ≡ Some (t, v) → marks j ≡ Some (t, w) → v ≡ w
same_said {V = V} marks n start heads h i j t v w below k l p q =
    let a = h.each i t v k p in
    let b = h.each j t w l q in
    let one : a.0 ≡ b.0 = same_Some a.0 b.0 (sym a.1.0 ∙ b.1.0) in
    let places : a.0.0 ≡ b.0.0 = ap (λ (x : ℕ × V). x.0) one in
    let before = a.1.1.before in
    elim a.1.1.same [
      | inl e ↦ elim b.1.1.same [
        | inl f ↦ sym e ∙ ap (λ (x : ℕ × V). x.1) one ∙ f
        | inr above ↦ absurd (omega arith)
      ]
      | inr above ↦ absurd (omega arith)
    ]

-- the marks of calls in groups
abbrev pub marks_by : {M : Type 0} → (ℕ → CallRec → Option M) → List CallRec → List ℕ → ℕ → Option M
marks_by mark calls groups i = option_and_then (λ a. option_and_then (λ g. mark g a) (slice_get groups i)) (slice_get calls i)

pub marked_at : {M : Type 0} (mark : ℕ → CallRec → Option M) (calls : List CallRec) (groups : List ℕ) (i : ℕ) (a : CallRec) (g : ℕ) → slice_get calls i ≡ Some a → slice_get groups i ≡ Some g → marks_by mark calls groups i ≡ mark g a
marked_at {M = M} mark calls groups i a g p q =
    ap (λ (o : Option CallRec). option_and_then (λ (x : CallRec). option_and_then (λ (k : ℕ). mark k x) (slice_get groups i)) o) p
    ∙ ap (λ (o : Option ℕ). option_and_then (λ (k : ℕ). mark k a) o) q

-- a place that repeats an earlier one
heads_repeat : {T V : Type 0} (mark : ℕ → CallRec → Option (T × V)) (calls : List CallRec) (groups : List ℕ) (n start : ℕ) (heads : T → Option (ℕ × V)) → ((g : ℕ) (a b : CallRec) → naming a ≡ naming b → mark g a ≡ mark g b)
    → IsRepeat calls groups n → AreHeads (marks_by mark calls groups) n start heads → AreHeads (marks_by mark calls groups) (n + 1) start heads
heads_repeat mark calls groups n start heads by_naming r h =
    let first = marked_at mark calls groups r.earlier r.a r.group r.first_is r.first_group in
    let second = marked_at mark calls groups n r.b r.group r.second_is r.second_group in
    heads_more_same (marks_by mark calls groups) n start r.earlier heads r.before (first ∙ by_naming r.group r.a r.b r.same ∙ sym second) h

pub named_repeat : (calls : List CallRec) (groups : List ℕ) (n start : ℕ) (heads : ℕ × ℕ → Option (ℕ × Name)) → IsRepeat calls groups n → AreHeads (marks_by named_of calls groups) n start heads → AreHeads (marks_by named_of calls groups) (n + 1) start heads
named_repeat calls groups n start heads = heads_repeat named_of calls groups n start heads (λ g a b e. ap (λ (o : Option (ℕ × Name)). option_map (λ given. ((g, given.0), given.1)) o) e)

pub versioned_repeat : (calls : List CallRec) (groups : List ℕ) (n start : ℕ) (heads : ℕ × Name → Option (ℕ × ℕ)) → IsRepeat calls groups n → AreHeads (marks_by versioned_of calls groups) n start heads → AreHeads (marks_by versioned_of calls groups) (n + 1) start heads
versioned_repeat calls groups n start heads = heads_repeat versioned_of calls groups n start heads (λ g a b e. ap (λ (o : Option (ℕ × Name)). option_map (λ given. ((g, given.1), given.0)) o) e)

naming_is : (a : CallRec) (v : ℕ) (x : Name) → shows a.answer ≡ Some v → names a.name a.answer ≡ Some x → naming a ≡ Some (v, x)
naming_is a v x p q =
    ap (λ (o : Option ℕ). option_and_then (λ (version : ℕ). option_map (λ (name : Name). (version, name)) (names a.name a.answer)) o) p
    ∙ ap (λ (o : Option Name). option_map (λ (name : Name). (v, name)) o) q

-- the group of a place
pub grouped : (groups : List ℕ) (i : ℕ) → i < length groups → (g : ℕ) × (slice_get groups i ≡ Some g)
grouped groups i l = (get_or groups i 0, slice_get-get_or groups i 0 l)

-- calls of one object have one group
pub one_group : (calls : List CallRec) (groups : List ℕ) → AreGroups calls groups → (i j : ℕ) (a b : CallRec) (g h : ℕ) → slice_get calls i ≡ Some a → slice_get calls j ≡ Some b
    → slice_get groups i ≡ Some g → slice_get groups j ≡ Some h → key_of a.call ≡ key_of b.call → g ≡ h
one_group calls groups are i j a b g h p q r s key = same_Some g h (sym (are.each i a g p r) ∙ ap are.group_of key ∙ are.each j b h q s)

module _ (calls : List CallRec) (groups : List ℕ) (len : length groups ≡ length calls) (are : AreGroups calls groups) where
  group_at : (i : ℕ) (a : CallRec) → slice_get calls i ≡ Some a → (g : ℕ) × (slice_get groups i ≡ Some g)
  group_at i a p = let l = slice_get_within calls i a p in grouped groups i (omega arith)

  pub agreed : (n start : ℕ) (heads : ℕ × ℕ → Option (ℕ × Name)) → length calls ≤ n → AreHeads (marks_by named_of calls groups) n start heads → KeptBefore Agree calls start
  agreed n start heads all h i below j m l a b p q key v x y show_a show_b name_a name_b =
      let g = group_at i a p in
      let k = group_at j b q in
      let same = one_group calls groups are i j a b g.0 k.0 p q g.1 k.1 key in
      let first : marks_by named_of calls groups i ≡ Some ((g.0, v), x) = marked_at named_of calls groups i a g.0 p g.1 ∙ ap (λ (o : Option (ℕ × Name)). option_map (λ given. ((g.0, given.0), given.1)) o) (naming_is a v x show_a name_a) in
      let second : marks_by named_of calls groups j ≡ Some ((g.0, v), y) =
      marked_at named_of calls groups j b k.0 q k.1 ∙ ap (λ (o : Option (ℕ × Name)). option_map (λ given. ((k.0, given.0), given.1)) o) (naming_is b v y show_b name_b)
      ∙ ap (λ (n : ℕ). Some ((n, v), y)) (sym same) in
      let within = slice_get_within calls i a p in
      same_said (marks_by named_of calls groups) n start heads h i j (g.0, v) x y below (omega arith) (omega arith) first second

  pub taken_once : (n start : ℕ) (heads : ℕ × Name → Option (ℕ × ℕ)) → length calls ≤ n → AreHeads (marks_by versioned_of calls groups) n start heads → KeptBefore TakeEffectOnce calls start
  taken_once n start heads all h i below j m l a b p q key x v w name_a name_b show_a show_b =
      let g = group_at i a p in
      let k = group_at j b q in
      let same = one_group calls groups are i j a b g.0 k.0 p q g.1 k.1 key in
      let first : marks_by versioned_of calls groups i ≡ Some ((g.0, x), v) = marked_at versioned_of calls groups i a g.0 p g.1 ∙ ap (λ (o : Option (ℕ × Name)). option_map (λ given. ((g.0, given.1), given.0)) o) (naming_is a v x show_a name_a) in
      let second : marks_by versioned_of calls groups j ≡ Some ((g.0, x), w) =
      marked_at versioned_of calls groups j b k.0 q k.1 ∙ ap (λ (o : Option (ℕ × Name)). option_map (λ given. ((k.0, given.1), given.0)) o) (naming_is b w x show_b name_b)
      ∙ ap (λ (n : ℕ). Some ((n, x), w)) (sym same) in
      let within = slice_get_within calls i a p in
      same_said (marks_by versioned_of calls groups) n start heads h i j (g.0, x) v w below (omega arith) (omega arith) first second
