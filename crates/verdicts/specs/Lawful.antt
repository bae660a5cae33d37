-- What every kind of standing keeps to: equality is equality, a standing after which no left occurrence is possible stays so and ends
-- nothing, and the atoms listed are live and rise. (Document 01, "Standings".)
-- Assumes nothing.
use Rattle.std.specs.Prelude.{ℕ, ◌≡◌, true, false, []}
use Rattle.kat.specs.Lists.{In}
use Rattle.notation.specs.Query.{live}
use Rattle.verdicts.specs.Standings.{System, Letter}
use Rattle.verdicts.specs.Orders.{Rising}

-- the laws of a kind of standing
pub record Lawful (S : System) : Type 0 where
  pub equal_sound : (s t : S.Standing) → S.equal s t ≡ true → s ≡ t
  pub equal_self : (s : S.Standing) → S.equal s s ≡ true
  pub dead_stays : (s : S.Standing) (l : Letter) → S.possible s ≡ false → S.possible (S.onward s l) ≡ false
  pub dead_ends : (s : S.Standing) → S.possible s ≡ false → S.finals s ≡ []
  pub finals_rising : (s : S.Standing) → Rising (S.finals s)
  pub finals_live : (s : S.Standing) (a : ℕ) → In a (S.finals s) → In a S.live
  pub alone_rising : Rising S.alone
  pub alone_live : (a : ℕ) → In a S.alone → In a S.live
  pub live_rising : Rising S.live
