-- What `join` refuses, and what it makes of the pieces that it takes.
use Rattle.std.specs.Prelude.{◌≡◌, ◌≢◌, ◌⊎◌, ℕ, ◌+◌, ◌*◌, ◌<◌, ◌≤◌, ◌++◌, ◌∷◌, List, [], length, map, slice_index, slice_index_or, Vec, min}
use Rattle.std.specs.declared.alloc.Global.{Global}
use Rattle.gz_code.specs.CodeWord.{piece_width, word_at}
use Rattle.gz_code.specs.Polynomial.{value, IsPolynomial}
use Rattle.gz_code.specs.declared.error.CodeError.{CodeError}
use Rattle.gz_code.specs.declared.error.CodeError.TheVariants.{Index, Repeated, Width, TooFew, NoMemory}

-- pieces as they are given: the index of each, and its bytes
abbrev pub Given : Type 0
Given = List (ℕ × Vec ℕ Global)

abbrev pub index_at : Given → ℕ → ℕ
index_at given place = slice_index (map (λ (piece : ℕ × Vec ℕ Global). piece.0) given) place

abbrev pub bytes_given : Given → List (List ℕ)
bytes_given given = map (λ (piece : ℕ × Vec ℕ Global). piece.1.items) given

-- place is the first below n at which P holds
pub record IsFirst (P : ℕ → Type 0) (n place : ℕ) : Type 0 where
  pub below : place < n
  pub here : P place
  pub before : (q : ℕ) → q < place → P q → ⊥

-- the three faults of the piece at a place: no piece has its index; its index was given before; it has another width
abbrev pub IsBeyond : ℕ → Given → ℕ → Type 0
IsBeyond count given place = count ≤ index_at given place

abbrev pub IsRepeated : Given → ℕ → Type 0
IsRepeated given place = (q : ℕ) × (q < place) × (index_at given q ≡ index_at given place)

abbrev pub IsMisfit : ℕ → Given → ℕ → Type 0
IsMisfit width given place = length (slice_index_or (bytes_given given) place []) ≢ width

-- no given piece has the fault
abbrev pub Nowhere : (ℕ → Type 0) → Given → Type 0
Nowhere P given = (place : ℕ) → place < length given → P place → ⊥

-- what is refused: the first fault of the first kind that there is, by the index of its piece
abbrev pub IsRefused : ℕ → ℕ → ℕ → Given → CodeError → Type 0
IsRefused k m len given (Index index) = (place : ℕ) × IsFirst (IsBeyond (k + m) given) (length given) place × (index_at given place ≡ index)
IsRefused k m len given (Repeated index) =
    Nowhere (IsBeyond (k + m) given) given × ((place : ℕ) × IsFirst (IsRepeated given) (length given) place × (index_at given place ≡ index))
IsRefused k m len given (Width index) =
    Nowhere (IsBeyond (k + m) given) given
    × Nowhere (IsRepeated given) given
    × ((place : ℕ) × IsFirst (IsMisfit (piece_width k len) given) (length given) place × (index_at given place ≡ index))
IsRefused k m len given (TooFew have need) =
    Nowhere (IsBeyond (k + m) given) given
    × Nowhere (IsRepeated given) given
    × Nowhere (IsMisfit (piece_width k len) given) given
    × (length given < k)
    × (have ≡ length given)
    × (need ≡ k)
IsRefused k m len given NoMemory = ⊥

-- the bytes at one place of an object of len bytes come from one polynomial of degree below k, which has the bytes of the first k given pieces at their indices
pub record IsDecodedAt (k len : ℕ) (given : Given) (object : List ℕ) (place : ℕ) : Type 0 where
  pub polynomial : List ℕ
  pub degree : IsPolynomial k polynomial
  pub passes : (j : ℕ) → j < k → value polynomial (index_at given j) ≡ word_at (bytes_given given) place j
  pub bytes : (j : ℕ) → j < k → j * piece_width k len + place < len → slice_index object (j * piece_width k len + place) ≡ value polynomial j

pub record IsDecoded (k len : ℕ) (given : Given) (object : List ℕ) : Type 0 where
  pub long : length object ≡ len
  pub places : (place : ℕ) → place < piece_width k len → IsDecodedAt k len given object place

-- the first k given pieces are pieces of that list
abbrev pub AreAmong : ℕ → Given → List (List ℕ) → Type 0
AreAmong k given pieces = (j : ℕ) → j < k → slice_index_or (bytes_given given) j [] ≡ slice_index_or pieces (index_at given j) []

-- the steps of `join`

-- new has the point at that place: it was there, or it was added at the end
pub record IsPlaced (old new : List ℕ) (point at : ℕ) : Type 0 where
  pub within : at < length new
  pub is_point : slice_index new at ≡ point
  pub grown : (new ≡ old) ⊎ ((new ≡ old ++ point ∷ []) × ((i : ℕ) → i < length old → slice_index old i ≢ point))

-- where the first n points stand in a list that begins with the given points, and goes on with points that were not given
pub record IsLocated (given points : List ℕ) (n : ℕ) (order : List ℕ) : Type 0 where
  pub longer : length given ≤ length points
  pub kept : (i : ℕ) → i < length given → slice_index points i ≡ slice_index given i
  pub added : (t i : ℕ) → length given ≤ t → t < length points → i < length given → slice_index points t ≢ slice_index given i
  pub count : length order ≡ n
  pub within : (j : ℕ) → j < n → slice_index order j < length points
  pub is_point : (j : ℕ) → j < n → slice_index points (slice_index order j) ≡ j

-- the pieces in that order, one after another, as far as n of them and len bytes
pub record IsAssembled (order : List ℕ) (pieces : List (List ℕ)) (width n len : ℕ) (object : List ℕ) : Type 0 where
  pub long : length object ≡ min (n * width) len
  pub bytes : (j place : ℕ) → j < n → place < width → j * width + place < len → slice_index object (j * width + place) ≡ word_at pieces place (slice_index order j)

-- the indices of the first n given pieces
pub record AreIndices (given : Given) (n : ℕ) (points : List ℕ) : Type 0 where
  pub count : length points ≡ n
  pub each : (i : ℕ) → i < n → slice_index points i ≡ index_at given i

-- the bytes of the first n given pieces
pub record AreSlices (given : Given) (n : ℕ) (slices : List (List ℕ)) : Type 0 where
  pub count : length slices ≡ n
  pub each : (i : ℕ) → i < n → slice_index_or slices i [] ≡ slice_index_or (bytes_given given) i []
  pub are_bytes : (i place : ℕ) → i < n → slice_index (slice_index_or slices i []) place < 256

-- the bytes of the first n given pieces, and then those of the recovered ones
pub record AreAtHand (given : Given) (n : ℕ) (recovered slices : List (List ℕ)) : Type 0 where
  pub front : List (List ℕ)
  pub are_given : AreSlices given n front
  pub joined : slices ≡ front ++ recovered
