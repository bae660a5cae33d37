-- Ways through an expression. (Document 01, "Standings".) An occurrence may have just been read after a prefix when some way through the
-- expression reads the prefix and ends on it; what comes after the prefix is not looked at.
-- Assumes nothing.
use Rattle.std.specs.Prelude.{ℕ, ◌≡◌, true}
use Rattle.kat.specs.Expr.{Expr}
use Rattle.kat.specs.Ring.{Prefix, nothing, then}
use Rattle.kat.specs.Tables.{next, reads}

-- where p was read last (0: nothing), some way reads the prefix and ends on q ("Standings")
abbrev pub Way : Expr → ℕ → Prefix → ℕ → Type 0
Way E p nothing q = p ≡ q
Way E p (then l a r) q = (o : ℕ) × Way E p l o × (next E o q a ≡ true) × (reads E 0 q r ≡ true)
