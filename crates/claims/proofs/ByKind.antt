-- What is needed of path and of ring standings, said of both at once: the laws, the refuting words, and the contents in a sheet, by the kind
-- of the claim. Each is the law of one kind or of the other.
-- Assumes nothing.
use Prim.Native.Nat.{ℕ, ◌≤◌, ◌<◌}
use native.Mathlib.Omega.{arith}
use mathlib.Core.Path.{◌≡◌, refl}
use mathlib.Core.Logic.{◌↔◌}
use mathlib.Core.Bool.{Bool, true, false}
use mathlib.Core.List.{List}
use mathlib.Core.Option.{some}
use lib.ListN.{length}
use Rattle.kat.specs.Lists.{member}
use Rattle.kat.specs.Tables.{occurrences}
use Rattle.kat.specs.Word.{Word}
use Rattle.kat.specs.Ring.{Prefix}
use Rattle.notation.specs.Width.{width, row_length}
use Rattle.notation.specs.Sides.{Decision}
use Rattle.verdicts.specs.Standings.{path_system, ring_system, system_of, claim_system}
use Rattle.verdicts.specs.Search.{verdict}
use Rattle.claims.specs.SheetBytes.{contents_length, path_bytes, ring_bytes, standing_bytes}
use Rattle.claims.specs.SheetReading.{standing_of}
use Rattle.claims.specs.SheetWriting.{AllBytes, MayList}
use Rattle.verdicts.specs.Passing.{refuting}
use Rattle.verdicts.specs.Verdicts.{StandingOf}
use Rattle.notation.specs.Words.{Guarded, Refutes}
use Rattle.verdicts.specs.Orders.{Rising}
use Rattle.verdicts.specs.Lawful.{Lawful}
use Rattle.notation.specs.Refusals.{Result}
use Rattle.claims.specs.Calls.{Given, answer_of, searched}
use Rattle.verdicts.proofs.Lawful.{path_sound, path_self, path_lawful, ring_sound, ring_self, ring_lawful}
use Rattle.verdicts.proofs.Refuting.{refutes_path, refutes_ring}
use Rattle.claims.proofs.StandingBytes.{path_bytes_length, path_read_back, ring_bytes_length, ring_read_back}
use Rattle.claims.proofs.StandingExactly.{path_exactly}
use Rattle.claims.proofs.RingExactly.{ring_exactly}
use Rattle.claims.proofs.StandingShapes.{path_standings_shaped, ring_standings_shaped}

-- equality is equality
pub equal_sound : (ring : Bool) (D : Decision) (s t : (system_of ring D).Standing) → (system_of ring D).equal s t ≡ true → s ≡ t
equal_sound false D = path_sound D
equal_sound true D = ring_sound D

pub equal_self : (ring : Bool) (D : Decision) (s : (system_of ring D).Standing) → (system_of ring D).equal s s ≡ true
equal_self false D = path_self D
equal_self true D = ring_self D

-- the laws
pub lawful : (ring : Bool) (D : Decision) → Rising D.live → Lawful (system_of ring D)
lawful false D rising = path_lawful D rising
lawful true D rising = ring_lawful D rising

-- relations and live atoms are the decision's
pub same_relations : (ring : Bool) (D : Decision) → D.relations ≡ (system_of ring D).relations
same_relations false D = refl
same_relations true D = refl

pub live_atoms : (ring : Bool) (D : Decision) → ((a : ℕ) → member a D.live ≡ true → a < D.atoms)
    → (a : ℕ) → member a (system_of ring D).live ≡ true → a < D.atoms
live_atoms false D h = h
live_atoms true D h = h

-- the words that refute
pub refutes_by_standings : (ring : Bool) (D : Decision) → D.ring ≡ ring → (w : Word)
    → Refutes D w ↔ (Guarded (system_of ring D).live (system_of ring D).relations w × (refuting (system_of ring D) w ≡ true))
refutes_by_standings false D k = refutes_path D k
refutes_by_standings true D k = refutes_ring D k

-- the search
searched_as : (ring : Bool) (D : Decision) (allowance : ℕ)
    → ◌≡◌ {A = Result Given}
    (elim ring [
      | false ↦ answer_of (path_system D) path_bytes (verdict (path_system D) allowance)
      | true ↦ answer_of (ring_system D) ring_bytes (verdict (ring_system D) allowance)
    ])
    (answer_of (system_of ring D) (standing_bytes ring D) (verdict (system_of ring D) allowance))
searched_as false D allowance = refl
searched_as true D allowance = refl

pub searched_by_kind : (D : Decision) (allowance : ℕ)
    → searched D allowance ≡ answer_of (claim_system D) (standing_bytes D.ring D) (verdict (claim_system D) allowance)
unfolding searched
searched_by_kind D allowance = searched_as D.ring D allowance

-- contents that are read as a standing are its contents, and a sheet may list it
pub contents_exactly : (ring : Bool) (D : Decision) → (ring ≡ true → occurrences D.right < width) → (c : List ℕ)
    (s : (system_of ring D).Standing) → AllBytes c → standing_of ring D c ≡ some s → (c ≡ standing_bytes ring D s) × MayList ring D s
contents_exactly false D few c s b e = path_exactly D c s b e
contents_exactly true D few c s b e = ring_exactly D s (few refl) c b e

-- and what a sheet may list is read back
pub contents_read_back : (ring : Bool) (D : Decision) → occurrences D.left ≤ 64 → occurrences D.right ≤ 64
    → (ring ≡ true → occurrences D.right < width) → (s : (system_of ring D).Standing) → MayList ring D s
    → standing_of ring D (standing_bytes ring D s) ≡ some s
contents_read_back false D left right few s m = path_read_back D s left right m
contents_read_back true D left right few s m = ring_read_back D s left (few refl) m

pub contents_length_lem : (ring : Bool) (D : Decision) (s : (system_of ring D).Standing) → length (standing_bytes ring D s) ≡ contents_length ring
contents_length_lem false D s = path_bytes_length s
contents_length_lem true D s = ring_bytes_length s

pub contents_short : (ring : Bool) → contents_length ring < 65536
unfolding contents_length width row_length
contents_short false = omega arith
contents_short true = omega arith

-- a sheet may list every standing of a prefix
pub standings_may_list : (ring : Bool) (D : Decision) → ((a : ℕ) → member a D.live ≡ true → a < D.atoms)
    → {l : Prefix} {s : (system_of ring D).Standing} → StandingOf (system_of ring D) l s → MayList ring D s
standings_may_list false D live of = path_standings_shaped D of
standings_may_list true D live of = ring_standings_shaped D live of
