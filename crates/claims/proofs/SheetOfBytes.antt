-- Every number of a sheet is a byte: tags and lengths, sets and rows, and the numbers of words and first atoms in range.
-- Assumes nothing.
use Prim.Native.Nat.{ℕ, zero, suc, ◌<◌, ◌≤◌}
use native.Mathlib.Omega.{arith}
use mathlib.Core.Path.{refl}
use mathlib.Core.Logic.{⊎_elim}
use mathlib.Core.Bool.{Bool, true, false, cond}
use mathlib.Core.List.{List, [], ◌∷◌, ◌++◌}
use lib.ListN.{length}
use Rattle.kat.specs.Lists.{In, here, there}
use Rattle.kat.specs.Word.{Word, end, at, numbers}
use Rattle.kat.proofs.Sets.{in_append}
use Rattle.notation.specs.Width.{width, row_length}
use Rattle.notation.specs.Sides.{Decision}
use Rattle.verdicts.specs.Standings.{System, Path, Ring, row}
use Rattle.verdicts.specs.Search.{proved, refuted}
use Rattle.claims.specs.Fields.{big_endian, set_number, field}
use Rattle.claims.specs.SheetBytes.{set_bytes, row_bytes, table_bytes, path_bytes, ring_bytes, standing_fields, sheet_bytes}
use Rattle.claims.proofs.Bytes.{big_endian_small}
use Rattle.claims.specs.SheetWriting.{AllBytes, InRange}

pub bytes_cons : (a : ℕ) (bs : List ℕ) → a < 256 → AllBytes bs → AllBytes (a ∷ bs)
bytes_cons a bs h k b (here e) = omega arith
bytes_cons a bs h k b (there i) = k b i

pub bytes_nil : AllBytes []
bytes_nil b i = elim i [ ]

bytes_append : (as' bs : List ℕ) → AllBytes as' → AllBytes bs → AllBytes (as' ++ bs)
bytes_append as' bs h k b i = ⊎_elim (h b) (k b) (in_append as' i)

big_endian_bytes : (n m : ℕ) → AllBytes (big_endian n m)
big_endian_bytes n m b i = big_endian_small n m i

pub field_bytes : (tag : ℕ) (contents : List ℕ) → tag < 256 → AllBytes contents → AllBytes (field tag contents)
unfolding field
field_bytes tag contents h k =
    bytes_cons tag (big_endian 2 (length contents) ++ contents) h
    (bytes_append (big_endian 2 (length contents)) contents (big_endian_bytes 2 (length contents)) k)

set_bytes_bytes : (s : List ℕ) → AllBytes (set_bytes s)
unfolding set_bytes
set_bytes_bytes s = big_endian_bytes 8 (set_number 1 s)

row_bytes_bytes : (b : ℕ) (t : List (List ℕ)) (p n : ℕ) → AllBytes (row_bytes b t p n)
unfolding row_bytes
row_bytes_bytes b t p zero = bytes_nil
row_bytes_bytes b t p (suc n) =
    bytes_append (big_endian b (set_number 0 (row t p))) (row_bytes b t (suc p) n) (big_endian_bytes b (set_number 0 (row t p))) (row_bytes_bytes b t (suc p) n)

table_bytes_bytes : (t : List (List ℕ)) → AllBytes (table_bytes t)
unfolding table_bytes
table_bytes_bytes t = row_bytes_bytes row_length t 0 width

pub path_bytes_bytes : (s : Path) → AllBytes (path_bytes s)
unfolding path_bytes
path_bytes_bytes s = bytes_append (set_bytes s.P) (set_bytes s.S) (set_bytes_bytes s.P) (set_bytes_bytes s.S)

flag_byte : (z : Bool) → cond z 1 0 < 256
flag_byte true = omega arith
flag_byte false = omega arith

pub ring_bytes_bytes : (s : Ring) → s.first < 256 → AllBytes (ring_bytes s)
unfolding ring_bytes
ring_bytes_bytes s h =
    let rows : List ℕ = table_bytes s.M ++ table_bytes s.N in
    bytes_cons s.first (cond s.Z 1 0 ∷ (set_bytes s.P ++ rows)) h
    (bytes_cons (cond s.Z 1 0) (set_bytes s.P ++ rows) (flag_byte s.Z)
    (bytes_append (set_bytes s.P) rows (set_bytes_bytes s.P)
    (bytes_append (table_bytes s.M) (table_bytes s.N) (table_bytes_bytes s.M) (table_bytes_bytes s.N))))

pub numbers_bytes : (D : Decision) (w : Word) → D.atoms ≤ 256 → D.relations ≤ 256 → InRange D w → AllBytes (numbers w)
numbers_bytes D (end a) h k r = bytes_cons a [] (omega arith) bytes_nil
numbers_bytes D (at a x w) h k (p, q, r) =
    bytes_cons a (x ∷ numbers w) (omega arith) (bytes_cons x (numbers w) (omega arith) (numbers_bytes D w h k r))

module _ (S : System) (contents : S.Standing → List ℕ) where
  standings_bytes : (ss : List S.Standing) → ((s : S.Standing) → In s ss → AllBytes (contents s)) → AllBytes (standing_fields S contents ss)
  unfolding standing_fields
  standings_bytes [] h = bytes_nil
  standings_bytes (s ∷ ss) h =
      bytes_append (field 3 (contents s)) (standing_fields S contents ss)
      (field_bytes 3 (contents s) (omega arith) (h s (here refl))) (standings_bytes ss (λ t i. h t (there i)))

  pub proved_bytes : (ss : List S.Standing) → ((s : S.Standing) → In s ss → AllBytes (contents s))
      → AllBytes (sheet_bytes S contents (proved ss))
  unfolding sheet_bytes
  proved_bytes ss h =
      bytes_append (field 1 (1 ∷ [])) (standing_fields S contents ss)
      (field_bytes 1 (1 ∷ []) (omega arith) (bytes_cons 1 [] (omega arith) bytes_nil)) (standings_bytes ss h)

  pub refuted_bytes : (w : Word) → AllBytes (numbers w) → AllBytes (sheet_bytes S contents (refuted w))
  unfolding sheet_bytes
  refuted_bytes w h =
      bytes_append (field 1 (2 ∷ [])) (field 2 (numbers w))
      (field_bytes 1 (2 ∷ []) (omega arith) (bytes_cons 2 [] (omega arith) bytes_nil)) (field_bytes 2 (numbers w) (omega arith) h)
