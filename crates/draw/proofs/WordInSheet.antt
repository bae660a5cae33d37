-- Where the word of a refuted sheet stands: behind seven bytes, up to the end. The first field is the verdict, four bytes; the second has a tag, two
-- bytes of its length and the word's numbers; and nothing follows.
-- Assumes nothing.
use Prim.Native.Nat.{ℕ, ◌+◌, ◌*◌, ◌-◌, ◌≤◌}
use native.Mathlib.Omega.{arith}
use mathlib.Core.Path.{◌≡◌, sym, ◌∙◌, ap}
use mathlib.Core.Bool.{Bool, true, false}
use mathlib.Core.List.{List, [], ◌∷◌, ◌++◌, append-nil}
use mathlib.Core.Option.{some}
use lib.Dec.{leb}
use lib.ListN.{length, take, drop, take-append-drop, length-drop}
use lib.Seq.{take_all}
use Rattle.kat.specs.Word.{Word, numbers}
use Rattle.claims.specs.Sides.{Decision}
use Rattle.claims.specs.Fields.{whole, cut, contents_of, next_field}
use Rattle.claims.specs.Refusals.{Result, ok, refused}
use Rattle.claims.specs.SheetReading.{Said, says_proved, says_refuted, Part, part_in, sheet_in}
use Rattle.claims.proofs.Results.{refused_not_ok}
use Rattle.claims.proofs.WordBytes.{read_numbers}
use Rattle.claims.proofs.PartReading.{behind, stopped, PartEnd, verdictless, wordless, word, standings, part_end, sheet_is_part}

-- behind its three bytes a field has its contents, and then the rest
field_split : (bs : List ℕ) (tag : ℕ) (c rest : List ℕ) → next_field bs ≡ whole tag c rest → (3 ≤ length bs) × (drop 3 bs ≡ c ++ rest)
unfolding next_field contents_of
field_split [] tag c rest e = absurd (let z : ◌≡◌ {A = ℕ} 0 1 = cc in omega arith)
field_split (t ∷ []) tag c rest e = absurd (let z : ◌≡◌ {A = ℕ} 0 1 = cc in omega arith)
field_split (t ∷ h ∷ []) tag c rest e = absurd (let z : ◌≡◌ {A = ℕ} 0 1 = cc in omega arith)
field_split (t ∷ h ∷ l ∷ bs) tag c rest e = (omega arith, go (leb (h * 256 + l) (length bs)) e)
  where
    go : (b : Bool) → elim b [ true ↦ whole t (take (h * 256 + l) bs) (drop (h * 256 + l) bs) | false ↦ cut ] ≡ whole tag c rest → bs ≡ c ++ rest
    go true f =
        let x : take (h * 256 + l) bs ≡ c = cc in
        let y : drop (h * 256 + l) bs ≡ rest = cc in
        sym (take-append-drop (h * 256 + l) bs) ∙ ap (λ m. m ++ drop (h * 256 + l) bs) x ∙ ap (λ m. c ++ m) y
    go false f = absurd (let z : ◌≡◌ {A = ℕ} 0 1 = cc in omega arith)

-- the verdict takes four bytes, and three more stand before the word
behind_verdict : (bs after ns : List ℕ) → next_field bs ≡ whole 1 (2 ∷ []) after → next_field after ≡ whole 2 ns []
    → (7 ≤ length bs) × (drop 7 bs ≡ ns)
behind_verdict [] after ns e f = absurd (let (h, g) = field_split [] 1 (2 ∷ []) after e in omega arith)
behind_verdict (t ∷ []) after ns e f = absurd (let (h, g) = field_split (t ∷ []) 1 (2 ∷ []) after e in omega arith)
behind_verdict (t ∷ u ∷ []) after ns e f = absurd (let (h, g) = field_split (t ∷ u ∷ []) 1 (2 ∷ []) after e in omega arith)
behind_verdict (t ∷ u ∷ v ∷ bs) after ns e f =
    let (h, g) = field_split (t ∷ u ∷ v ∷ bs) 1 (2 ∷ []) after e in
    let (i, j) = field_split after 2 ns [] f in
    (omega (arith, ap length g), ap (drop 4) g ∙ j ∙ append-nil ns)

module _ (D : Decision) (bs : List ℕ) (w : Word) where
  said : Result (Part D) → Said D
  said (ok p) = p.said
  said (refused r) = says_proved []

  rest : Result (Part D) → List ℕ
  rest (ok p) = p.rest
  rest (refused r) = []

  -- the word of a sheet that says refuted
  pub word_stands : sheet_in D bs ≡ ok (says_refuted w) → (7 ≤ length bs) × (drop 7 bs ≡ numbers w)
  unfolding said rest
  word_stands e = let (k, f) = sheet_is_part D bs (says_refuted w) e in go f (part_end D 1 bs)
    where
      go : {k : ℕ} → part_in D 1 bs ≡ ok (record { said = says_refuted w; next = k; rest = [] }) → PartEnd D 1 bs (part_in D 1 bs)
          → (7 ≤ length bs) × (drop 7 bs ≡ numbers w)
      go f (verdictless g) = refused_not_ok (sym g ∙ f)
      go f (wordless after h g) = refused_not_ok (sym g ∙ f)
      go f (word v ns after more h i j g) =
          let q : says_refuted v ≡ says_refuted w = ap said (sym g ∙ f) in
          let z : v ≡ w = cc in
          let none : more ≡ [] = ap rest (sym g ∙ f) in
          let (l, m) = behind_verdict bs after ns h (i ∙ ap (whole 2 ns) none) in
          (l, m ∙ read_numbers D ns w (j ∙ ap some z))
      go f (standings after h (behind ss more t l i g)) =
          let q : says_proved ss ≡ says_refuted w = ap said (sym g ∙ f) in
          absurd (let z : ◌≡◌ {A = ℕ} 0 1 = cc in omega arith)
      go f (standings after h (stopped ss more t l g)) = refused_not_ok (sym g ∙ f)

-- a part up to the end is all of it
pub rest_all : (s : List ℕ) → take (length s - 7) (drop 7 s) ≡ drop 7 s
rest_all s = take_all (length s - 7) (drop 7 s) (simp length-drop (omega arith))
