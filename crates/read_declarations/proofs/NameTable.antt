-- The table of names with an entry more: the new name is found with its code, and every other name as before. The idea: entries are
-- passed one by one, and none of them has the code 0, so that a name that is not found has no entry.
-- Assumes nothing.
use Prim.Native.Nat.{ℕ, zero, suc, ◌+◌, ◌*◌, ◌≤◌, ◌<◌}
use native.Mathlib.Omega.{arith}
use native.Mathlib.Numerals.{add-one}
use mathlib.Core.Path.{◌≡◌, refl, sym, ◌∙◌, ap, subst}
use mathlib.Core.Bool.{Bool, true, false, cond}
use mathlib.Core.List.{List, [], ◌∷◌, ◌++◌}
use mathlib.Core.Option.{none}
use lib.ListN.{length, length-set}
use Rattle.kat.specs.Lists.{every}
use Rattle.claims.specs.Bytes.{same}
use Rattle.claims.specs.Tokens.{word_like}
use Rattle.claims.specs.Tree.{Name, Line}
use Rattle.claims.specs.Names.{declares?, kind_of}
use Rattle.claims.specs.Query.{Query}
use Rattle.claims.proofs.Results.{same_is_equal}
use Rattle.codes.specs.Codes.{code_of}
use Rattle.read_tokens.specs.Scan.{word_byte, key_of, Spelled}
use Rattle.read_names.specs.Keys.{same_key, find_in, entered}
use Rattle.read_tokens.specs.declared.Key.{Key}
use Rattle.read_names.proofs.Names.{same_key_lem}
use Rattle.read_declarations.specs.State.{Entries, Tabled}
use Rattle.codes.proofs.NameKinds.{code_none, code_other}

-- an entry behind others, and behind none
entered_past : (a b d : ℕ) (names : List ℕ) (n : ℕ) (k : Key) (c : ℕ) → entered (a ∷ b ∷ d ∷ names) (suc n) k c ≡ a ∷ b ∷ d ∷ entered names n k c
unfolding entered
entered_past a b d names n k c =
    let e : suc n * 3 ≡ suc (suc (suc (n * 3))) = omega arith in
    let f : suc n * 3 + 1 ≡ suc (suc (suc (n * 3 + 1))) = omega arith in
    let g : suc n * 3 + 2 ≡ suc (suc (suc (n * 3 + 2))) = omega arith in
    rw (f, g, e)

entered_first : (a b d : ℕ) (names : List ℕ) (k : Key) (c : ℕ) → entered (a ∷ b ∷ d ∷ names) 0 k c ≡ k.high ∷ k.low ∷ c ∷ names
unfolding entered
entered_first a b d names k c = refl

entered_length : (names : List ℕ) (n : ℕ) (k : Key) (c : ℕ) → length (entered names n k c) ≡ length names
unfolding entered
entered_length names n k c = simp length-set

-- one entry
find_entry : (n h l c : ℕ) (names : List ℕ) (x : Key)
    → find_in (suc n) (h ∷ l ∷ c ∷ names) x ≡ cond (same_key (record { high = h; low = l }) x) c (find_in n names x)
unfolding find_in
find_entry n h l c names x = refl

pub entries_more : (n : ℕ) (names : List ℕ) (k : Key) (c : ℕ) → Entries n names → n * 3 + 3 ≤ length names → 0 < c
    → Entries (suc n) (entered names n k c)
entries_more zero [] k c w h p = absurd (omega arith)
entries_more zero (a ∷ []) k c w h p = absurd (omega arith)
entries_more zero (a ∷ b ∷ []) k c w h p = absurd (omega arith)
entries_more zero (a ∷ b ∷ d ∷ names) k c w h p = rw (entered_first a b d names k c) (p, tt)
entries_more (suc n) [] k c w h p = absurd w
entries_more (suc n) (a ∷ []) k c w h p = absurd w
entries_more (suc n) (a ∷ b ∷ []) k c w h p = absurd w
entries_more (suc n) (a ∷ b ∷ d ∷ names) k c (u, w) h p =
    rw (entered_past a b d names n k c) (u, entries_more n names k c w (omega arith) p)

-- a key other than the new one is found as before
find_other : (n : ℕ) (names : List ℕ) (k : Key) (c : ℕ) (x : Key) → Entries n names → n * 3 + 3 ≤ length names → same_key k x ≡ false
    → find_in (suc n) (entered names n k c) x ≡ find_in n names x
unfolding find_in
find_other zero [] k c x w h e = absurd (omega arith)
find_other zero (a ∷ []) k c x w h e = absurd (omega arith)
find_other zero (a ∷ b ∷ []) k c x w h e = absurd (omega arith)
find_other zero (a ∷ b ∷ d ∷ names) k c x w h e = rw (entered_first a b d names k c, find_entry 0 k.high k.low c names x, e)
find_other (suc n) [] k c x w h e = absurd w
find_other (suc n) (a ∷ []) k c x w h e = absurd w
find_other (suc n) (a ∷ b ∷ []) k c x w h e = absurd w
find_other (suc n) (a ∷ b ∷ d ∷ names) k c x (u, w) h e =
    ap (λ t. find_in (suc (suc n)) t x) (entered_past a b d names n k c)
    ∙ find_entry (suc n) a b d (entered names n k c) x
    ∙ ap (cond (same_key (record { high = a; low = b }) x) d) (find_other n names k c x w (omega arith) e)

-- the new key, which was not found
find_new : (n : ℕ) (names : List ℕ) (k : Key) (c : ℕ) (x : Key) → Entries n names → n * 3 + 3 ≤ length names → same_key k x ≡ true
    → find_in n names x ≡ 0 → find_in (suc n) (entered names n k c) x ≡ c
unfolding find_in
find_new zero [] k c x w h e z = absurd (omega arith)
find_new zero (a ∷ []) k c x w h e z = absurd (omega arith)
find_new zero (a ∷ b ∷ []) k c x w h e z = absurd (omega arith)
find_new zero (a ∷ b ∷ d ∷ names) k c x w h e z = rw (entered_first a b d names k c, find_entry 0 k.high k.low c names x, e)
find_new (suc n) [] k c x w h e z = absurd w
find_new (suc n) (a ∷ []) k c x w h e z = absurd w
find_new (suc n) (a ∷ b ∷ []) k c x w h e z = absurd w
find_new (suc n) (a ∷ b ∷ d ∷ names) k c x (u, w) h e z =
    ap (λ t. find_in (suc (suc n)) t x) (entered_past a b d names n k c)
    ∙ find_entry (suc n) a b d (entered names n k c) x
    ∙ go (same_key (record { high = a; low = b }) x) z (find_new n names k c x w (omega arith) e)
  where
    go : (t : Bool) → cond t d (find_in n names x) ≡ 0 → (find_in n names x ≡ 0 → find_in (suc n) (entered names n k c) x ≡ c)
        → cond t d (find_in (suc n) (entered names n k c) x) ≡ c
    go true f g = absurd (omega arith)
    go false f g = g f

-- a line that declares the new name w and no other, with the code c
pub knows_entered : (names : List ℕ) (n : ℕ) (q : Query) (l : Line) (w : Name) (c : ℕ) → Tabled names n q → Spelled w → n < 64
    → kind_of q w ≡ none → ((v : Name) → same w v ≡ false → declares? l v ≡ none) → code_of (q ++ (l ∷ [])) w ≡ c → 0 < c
    → Tabled (entered names n (key_of w) c) (n + 1) (q ++ (l ∷ []))
knows_entered names n q l w c k s room fresh others new p =
    rw (add-one n)
    (record {
      size = entered_length names n (key_of w) c ∙ k.size;
      entries = entries_more n names (key_of w) c k.entries h p;
      found = λ v like bytes. go v like bytes (same w v) refl;
    })
  where
    h : n * 3 + 3 ≤ length names
    h = omega (arith, k.size)

    go : (v : Name) → word_like v ≡ true → every word_byte v ≡ true → (b : Bool) → same w v ≡ b
        → find_in (suc n) (entered names n (key_of w) c) (key_of v) ≡ code_of (q ++ (l ∷ [])) v
    go v like bytes true e =
        let i : w ≡ v = same_is_equal w v e in
        find_new n names (key_of w) c (key_of v) k.entries h (same_key_lem w v s (record { like = like; bytes = bytes }) ∙ e)
        (k.found v like bytes ∙ code_none q v (subst (λ x. kind_of q x ≡ none) i fresh))
        ∙ sym new ∙ ap (code_of (q ++ (l ∷ []))) i
    go v like bytes false e =
        find_other n names (key_of w) c (key_of v) k.entries h (same_key_lem w v s (record { like = like; bytes = bytes }) ∙ e)
        ∙ k.found v like bytes ∙ sym (code_other q l v (others v e))

-- a line that declares no name
pub knows_kept : (names : List ℕ) (n : ℕ) (q : Query) (l : Line) → Tabled names n q → ((v : Name) → declares? l v ≡ none)
    → Tabled names n (q ++ (l ∷ []))
knows_kept names n q l k others =
    record { size = k.size; entries = k.entries; found = λ v like bytes. k.found v like bytes ∙ sym (code_other q l v (others v)) }
