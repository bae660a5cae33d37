-- Words and prefixes of different shapes are different: a longer word is no single atom, and a prefix with a relation is not empty.
-- Assumes nothing.
use Prim.Native.Nat.{ℕ}
use native.Mathlib.Omega.{arith}
use mathlib.Core.Path.{◌≡◌, ap}
use Rattle.kat.specs.Word.{Word, end, at}
use Rattle.kat.specs.Ring.{Prefix, nothing, then}

abbrev is_end : Word → ℕ
is_end (end a) = 1
is_end (at a r w) = 0

pub longer_is_no_end : {a r b : ℕ} {w : Word} → at a r w ≡ end b → ⊥
longer_is_no_end h = let n : ◌≡◌ {A = ℕ} 0 1 = ap is_end h in omega arith

abbrev is_longer : Prefix → ℕ
is_longer nothing = 0
is_longer (then l a r) = 1

pub nothing_is_not_longer : {l : Prefix} {a r : ℕ} → nothing ≡ then l a r → ⊥
nothing_is_not_longer h = let n : ◌≡◌ {A = ℕ} 0 1 = ap is_longer h in omega arith
