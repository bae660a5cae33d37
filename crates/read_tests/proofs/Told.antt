-- Codes stored and slips remembered between two places, put together.
-- Assumes nothing.
use Prim.Native.Nat.{ℕ, ◌+◌}
use native.Mathlib.Omega.{arith}
use mathlib.Core.Path.{◌≡◌, refl, ap, ◌∙◌}
use mathlib.Core.List.{List, [], ◌++◌}
use lib.ListN.{length, length-append}
use lib.Seq.{sets}
use Rattle.claims.specs.Names.{Use, first_slip}
use Rattle.claims.specs.Query.{Query}
use Rattle.read_tests.specs.declared.Place.{Place}
use Rattle.read_tests.specs.Places.{Told}
use Rattle.read_names.specs.Slips.{first_of, slip_by}
use Rattle.read_next.proofs.Stores.{stores_then}
use Rattle.read_names.proofs.Slips.{slips_then, no_slip}

module _ (q : Query) (p : Place) (before : List ℕ) where
  pub told_nothing : Told q p before before p [] []
  told_nothing = record { written = refl; used = omega arith; slip = no_slip q p.slip }

  module _ (m : List ℕ) (r : Place) (cs : List ℕ) (us : List Use) (t : Told q p before m r cs us) where
    -- what was told from the next place on
    pub told_then : (a : List ℕ) (e : Place) (ds : List ℕ) (vs : List Use) → Told q r m a e ds vs → Told q p before a e (cs ++ ds) (us ++ vs)
    told_then a e ds vs u =
        record {
          written = stores_then before p.used cs ds m a r.used t.written t.used u.written;
          used = omega (arith, t.used, u.used, length-append cs ds);
          slip = slips_then q us vs p.slip r.slip e.slip t.slip u.slip;
        }

    -- more codes, and no name
    pub told_store : (a : List ℕ) (e : Place) (ds : List ℕ) → e.slip ≡ r.slip → a ≡ sets m r.used ds → e.used ≡ r.used + length ds
        → Told q p before a e (cs ++ ds) us
    told_store a e ds i w l =
        record {
          written = stores_then before p.used cs ds m a r.used t.written t.used w;
          used = omega (arith, t.used, l, length-append cs ds);
          slip = i ∙ t.slip;
        }

    pub told_as : (ds : List ℕ) (vs : List Use) → cs ≡ ds → us ≡ vs → Told q p before m r ds vs
    told_as ds vs c u =
        record {
          written = t.written ∙ ap (sets before p.used) c;
          used = omega (arith, t.used, ap length c);
          slip = t.slip ∙ ap (λ ws. first_of p.slip (slip_by (first_slip q ws))) u;
        }

-- only what is used, and the slip, of the place before count
pub told_from : (q : Query) (p : Place) (at : ℕ) (before after : List ℕ) (r : Place) (cs : List ℕ) (us : List Use)
    → Told q (record { at = at; used = p.used; slip = p.slip }) before after r cs us → Told q p before after r cs us
told_from q p at before after r cs us t = record { written = t.written; used = t.used; slip = t.slip }
