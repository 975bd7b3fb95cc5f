-- One element of a list of requests is changed, as its own method says.
use Rattle.std.proofs.Common.{◌≡◌, ℕ, ◌<◌, List, Some, length, map, ap, sym, ◌∙◌, get_or}
use Rattle.std.specs.Prelude.{slice_get, slice_set, option_map}
use Rattle.std.proofs.lemmas.Option.{slice_get-map, slice_get-get_or}
use Rattle.std.proofs.lemmas.List.{map-set}
use Rattle.std.proofs.Math.Seq.{map-set_same}
use Rattle.gz_world.specs.States.{RequestAt, request_of}
use Rattle.gz_world.specs.declared.requests.Request.{Request}

-- the element at a place, as the mapped list has it
pub element_is : (xs : List Request) (at : ℕ) (x : Request) (r : RequestAt) → at < length xs → x ≡ get_or xs at x → slice_get (map request_of xs) at ≡ Some r → request_of x ≡ r
element_is xs at x r below is there =
    let e : slice_get xs at ≡ Some x = slice_get-get_or xs at x below ∙ ap Some (sym is) in
    let m : slice_get (map request_of xs) at ≡ Some (request_of x) = slice_get-map request_of xs at ∙ ap (option_map request_of) e in
    let s : Some (request_of x) ≡ Some r = sym m ∙ there in
    cc

-- an element that was changed, in the mapped list
pub element_set : (xs : List Request) (at : ℕ) (x y : Request) (r : RequestAt) (f : RequestAt → RequestAt) → at < length xs → x ≡ get_or xs at x → request_of y ≡ f (request_of x) → slice_get (map request_of xs) at ≡ Some r → map request_of (slice_set xs at y) ≡ slice_set (map request_of xs) at (f r)
element_set xs at x y r f below is changed there =
    map-set request_of xs at y ∙ ap (slice_set (map request_of xs) at) (changed ∙ ap f (element_is xs at x r below is there))

-- an element that is as it was
pub element_same : (xs : List Request) (at : ℕ) (x y : Request) → at < length xs → x ≡ get_or xs at x → request_of y ≡ request_of x → map request_of (slice_set xs at y) ≡ map request_of xs
element_same xs at x y below is same = map-set_same request_of xs at y x (same ∙ ap request_of is)
