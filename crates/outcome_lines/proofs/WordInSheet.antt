-- Where the word of a refuted sheet stands: behind seven bytes, two numbers a relation and one more.
-- Assumes nothing.
use Prim.Native.Nat.{ℕ, ◌+◌, ◌*◌, ◌-◌, ◌≤◌, ◌<◌, zero-le}
use native.Mathlib.Omega.{arith}
use mathlib.Core.Path.{◌≡◌, refl, sym, ◌∙◌, ap, subst}
use mathlib.Core.Bool.{Bool, true, false}
use mathlib.Core.List.{List, [], ◌++◌}
use lib.ListN.{length, take, drop, length-drop, length-take, drop_of_length-le}
use lib.Seq.{take_all, take_at}
use Rattle.kat.specs.Word.{Word, end, at, size, numbers}
use Rattle.claims.specs.Sides.{Decision}
use Rattle.claims.specs.Standings.{System, path_system, ring_system}
use Rattle.claims.specs.Search.{Verdict, proved, refuted, spent, verdict}
use Rattle.claims.specs.Fields.{big_endian, field}
use Rattle.claims.specs.SheetBytes.{sheet_bytes, path_bytes, ring_bytes}
use Rattle.claims.specs.Refusals.{Result, ok, refused}
use Rattle.claims.specs.Calls.{Answer, proved_with, refuted_by, Given, answer_of, searched, Lent, search_call}
use Rattle.claims.specs.SheetWriting.{refuted_sheet}
use Rattle.claims.proofs.SheetLength.{answer_leaves_own_sheet}

-- a part up to the end is all of it
pub rest_all : (s : List ℕ) → take (length s - 7) (drop 7 s) ≡ drop 7 s
rest_all s = take_all (length s - 7) (drop 7 s) (simp length-drop (omega arith))

-- the word's part is whole, or all that there is
pub part_size : (s : List ℕ) (n : ℕ) → n < length (take (length s - 7) (drop 7 s)) - n
    → 2 * n + 1 ≡ length (take (2 * n + 1) (take (length s - 7) (drop 7 s)))
part_size s n h = let l = length-take (2 * n + 1) (take (length s - 7) (drop 7 s)) in omega arith

pub part_cut : (s : List ℕ) (n : ℕ) → length (take (length s - 7) (drop 7 s)) ≤ 2 * n + 1
    → take (length s - 7) (drop 7 s) ≡ take (2 * n + 1) (drop 7 s)
part_cut s n h = rest_all s ∙ sym (take_all (2 * n + 1) (drop 7 s) (subst (λ (x : List ℕ). length x ≤ 2 * n + 1) (rest_all s) h))

pub part_none : (s : List ℕ) (n : ℕ) → length s < 7 → [] ≡ take (2 * n + 1) (drop 7 s)
part_none s n h =
    sym (ap (take (2 * n + 1)) (drop_of_length-le s {i = 7} (omega arith)) ∙ take_all (2 * n + 1) [] zero-le)

numbers_length : (w : Word) → length (numbers w) ≡ 2 * size w + 1
numbers_length (end a) = refl
numbers_length (at a r w) = let h = numbers_length w in omega arith

-- the answer of a search, and its sheet; anything where it is refused
given : Result Given → Answer
given (ok g) = g.answer
given (refused r) = proved_with 0

leaves : Result Given → List ℕ
leaves (ok g) = g.sheet
leaves (refused r) = []

-- the sheet of a refuted answer is that of its word
word_sheet_lem : (S : System) (contents : S.Standing → List ℕ) (v : Verdict S) (w : Word) (sheet : List ℕ)
    → answer_of S contents v ≡ ok (record { answer = refuted_by w; sheet = sheet }) → sheet ≡ refuted_sheet w
unfolding answer_of sheet_bytes given leaves
word_sheet_lem S contents (proved ss) w sheet e = absurd (not_proved (ap given e))
  where
    not_proved : proved_with (length ss) ≡ refuted_by w → ⊥
    not_proved h = let z : ◌≡◌ {A = ℕ} 0 1 = cc in omega arith
word_sheet_lem S contents (refuted v) w sheet e =
    sym (ap leaves e) ∙ ap refuted_sheet (same_word (ap given e))
  where
    same_word : refuted_by v ≡ refuted_by w → v ≡ w
    same_word h = cc
word_sheet_lem S contents spent w sheet e = let z : ◌≡◌ {A = ℕ} 0 1 = cc in absurd (omega arith)

searched_word_sheet : (D : Decision) (allowance : ℕ) (w : Word) (sheet : List ℕ)
    → searched D allowance ≡ ok (record { answer = refuted_by w; sheet = sheet }) → sheet ≡ refuted_sheet w
unfolding searched
searched_word_sheet D allowance w sheet e = go D.ring e
  where
    go : (b : Bool)
        → ◌≡◌ {A = Result Given} (elim b [
          | false ↦ answer_of (path_system D) path_bytes (verdict (path_system D) allowance)
          | true ↦ answer_of (ring_system D) ring_bytes (verdict (ring_system D) allowance)
        ]) (ok (record { answer = refuted_by w; sheet = sheet })) → sheet ≡ refuted_sheet w
    go false h = word_sheet_lem (path_system D) path_bytes (verdict (path_system D) allowance) w sheet h
    go true h = word_sheet_lem (ring_system D) ring_bytes (verdict (ring_system D) allowance) w sheet h

word_behind : (w : Word) (rest : List ℕ) → take (2 * size w + 1) (drop 7 (refuted_sheet w ++ rest)) ≡ numbers w
unfolding field big_endian
word_behind w rest = take_at (numbers w) rest (2 * size w + 1) (numbers_length w)

-- after a refuted answer the word stands in the buffer behind seven bytes
pub word_stands : (bs : List ℕ) (allowance : ℕ) (m : Lent) (w : Word) → (search_call bs allowance m).result ≡ ok (refuted_by w)
    → take (2 * size w + 1) (drop 7 (search_call bs allowance m).lent.buffer) ≡ numbers w
word_stands bs allowance m w e =
    let l = answer_leaves_own_sheet bs allowance m (refuted_by w) e in
    let s : l.sheet ≡ refuted_sheet w = searched_word_sheet l.asks.decided allowance w l.sheet l.own in
    ap (λ (b : List ℕ). take (2 * size w + 1) (drop 7 b))
    (l.leaves ∙ ap (λ (x : List ℕ). x ++ drop (length l.sheet) m.buffer) s)
    ∙ word_behind w (drop (length l.sheet) m.buffer)
