-- A table of names as a loop meets it: what is left of it holds the entry, or no whole entry, or one that is passed over. And the
-- table of a list of names, in which a name is found by its key.
-- Assumes nothing.
use Prim.Native.Nat.{ℕ, zero, suc, ◌+◌, ◌*◌, ◌-◌, ◌≤◌, ◌<◌}
use native.Mathlib.Omega.{arith}
use native.Mathlib.Numerals.{add-one, add-two, add-three}
use mathlib.Core.Path.{◌≡◌, refl, ap}
use mathlib.Core.Bool.{true, false, cond}
use mathlib.Core.List.{List, [], ◌∷◌, ◌++◌}
use lib.ListN.{length, drop, get_or, length-drop}
use lib.Seq.{drop-cons}
use Rattle.claims.specs.Bytes.{same}
use Rattle.read_tokens.specs.declared.Key.{Key}
use Rattle.read_tokens.specs.Scan.{key_of, Spelled}
use Rattle.read_names.specs.Keys.{same_key, find_in}
use Rattle.read_names.proofs.Names.{same_key_lem}

pub find_none : (n : ℕ) (names : List ℕ) (k : Key) → n ≤ 0 → 0 ≡ find_in n names k
unfolding find_in
find_none zero names k h = refl
find_none (suc n) names k h = absurd (omega arith)

few : (n : ℕ) (names : List ℕ) (k : Key) → length names < 3 → 0 ≡ find_in n names k
unfolding find_in
few zero names k h = refl
few (suc n) [] k h = refl
few (suc n) (a ∷ []) k h = refl
few (suc n) (a ∷ b ∷ []) k h = refl
few (suc n) (a ∷ b ∷ c ∷ names) k h = absurd (omega arith)

pub find_short : (n : ℕ) (names : List ℕ) (i : ℕ) (k : Key) → length names - i < 3 → 0 ≡ find_in n (drop i names) k
find_short n names i k h = few n (drop i names) k (simp length-drop h)

-- the entry at i
abbrev pub entry_key : List ℕ → ℕ → Key
entry_key names i = record { high = get_or names i 0; low = get_or names (i + 1) 0 }

three : (names : List ℕ) (i : ℕ) → 3 ≤ length names - i
    → drop i names ≡ get_or names i 0 ∷ get_or names (i + 1) 0 ∷ get_or names (i + 2) 0 ∷ drop (i + 3) names
three names i h =
    rw (
      drop-cons names i 0 (omega arith),
      drop-cons names (suc i) 0 (omega arith),
      drop-cons names (suc (suc i)) 0 (omega arith),
      add-one i,
      add-two i,
      add-three i,
    )

entry : (n h l c : ℕ) (names : List ℕ) (k : Key) → 0 < n
    → find_in n (h ∷ l ∷ c ∷ names) k ≡ cond (same_key (record { high = h; low = l }) k) c (find_in (n - 1) names k)
unfolding find_in
entry zero h l c names k p = absurd (omega arith)
entry (suc n) h l c names k p = let e : suc n - 1 ≡ n = omega arith in rw e

pub find_here : (n : ℕ) (names : List ℕ) (i : ℕ) (k : Key) → 0 < n → 3 ≤ length names - i → same_key (entry_key names i) k ≡ true
    → get_or names (i + 2) 0 ≡ find_in n (drop i names) k
find_here n names i k p h e =
    rw (three names i h, entry n (get_or names i 0) (get_or names (i + 1) 0) (get_or names (i + 2) 0) (drop (i + 3) names) k p, e)

pub find_next : (n : ℕ) (names : List ℕ) (i : ℕ) (k : Key) → 0 < n → 3 ≤ length names - i → same_key (entry_key names i) k ≡ false
    → find_in (n - 1) (drop (i + 3) names) k ≡ find_in n (drop i names) k
find_next n names i k p h e =
    rw (three names i h, entry n (get_or names i 0) (get_or names (i + 1) 0) (get_or names (i + 2) 0) (drop (i + 3) names) k p, e)

-- a name with its code
pub record Entry : Type 0 where
  pub name : List ℕ
  pub code : ℕ

-- the table of a list of names
unfoldable pub entries : List Entry → List ℕ
entries [] = []
entries (e ∷ es) = (key_of e.name).high ∷ (key_of e.name).low ∷ e.code ∷ entries es

-- the code of the first with the name w
unfoldable pub code_of : List Entry → List ℕ → ℕ
code_of [] w = 0
code_of (e ∷ es) w = cond (same e.name w) e.code (code_of es w)

-- all are spelled as names are
abbrev pub AllSpelled : List Entry → Type 0
AllSpelled [] = Unit {0}
AllSpelled (e ∷ es) = Spelled e.name × AllSpelled es

-- a name is found in the table of the names, whatever stands behind it
pub find_named : (es : List Entry) (rest w : List ℕ) → AllSpelled es → Spelled w
    → find_in (length es) (entries es ++ rest) (key_of w) ≡ code_of es w
unfolding find_in entries code_of
find_named [] rest w a b = refl
find_named (e ∷ es) rest w (a, as') b = rw (same_key_lem e.name w a b, find_named es rest w as' b)

pub entries_length : (es : List Entry) → length (entries es) ≡ length es * 3
unfolding entries
entries_length [] = refl
entries_length (e ∷ es) = omega (arith, entries_length es)

pub entries_more : (es ds : List Entry) → entries (es ++ ds) ≡ entries es ++ entries ds
unfolding entries
entries_more [] ds = refl
entries_more (e ∷ es) ds = ap (λ l. (key_of e.name).high ∷ (key_of e.name).low ∷ e.code ∷ l) (entries_more es ds)
