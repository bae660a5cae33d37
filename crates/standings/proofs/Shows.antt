-- One kind of standing shows another: a function takes the standings of W to those of S so that begin, one letter on, the tests and the
-- completing atoms agree, on those standings of W that are good. What the search and the sheet check say of S can then be said of W.
-- Assumes nothing.
use mathlib.Core.Path.{◌≡◌}
use mathlib.Core.List.{List}
use Rattle.kat.specs.Lists.{In}
use Rattle.claims.specs.Standings.{System, Letter}
use Rattle.claims.proofs.Letters.{Fits}

-- show takes the standings of W that are good to those of S
pub record Shows (S W : System) (show : W.Standing → S.Standing) (Good : W.Standing → Type 0) : Type 0 where
  pub begins : (l : Letter) → Fits W l → Good (W.begin l)
  pub begins_shown : (l : Letter) → Fits W l → show (W.begin l) ≡ S.begin l
  pub goes_on : (s : W.Standing) (l : Letter) → Good s → Fits W l → Good (W.onward s l)
  pub goes_on_shown : (s : W.Standing) (l : Letter) → Good s → Fits W l → show (W.onward s l) ≡ S.onward (show s) l
  pub same_possible : (s : W.Standing) → Good s → S.possible (show s) ≡ W.possible s
  pub same_finals : (s : W.Standing) → Good s → S.finals (show s) ≡ W.finals s
  pub same_equal : (s t : W.Standing) → Good s → Good t → S.equal (show s) (show t) ≡ W.equal s t
  pub same_alone : S.alone ≡ W.alone
  pub same_live : S.live ≡ W.live
  pub same_relations : S.relations ≡ W.relations

-- every letter of the list is one of the kind
abbrev pub AllFit : System → List Letter → Type 0
AllFit W ls = (l : Letter) → In l ls → Fits W l
