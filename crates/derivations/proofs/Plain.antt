-- Contracts whose clauses are plain facts: what a caller takes of one (`known`), and what ends the proof of the function itself (`close`). For a function
-- that the checker covers it makes such a reading itself.
-- Assumes nothing.
use Prim.Native.Nat.{ℕ}
use mathlib.Core.List.{List, []}
use mathlib.Core.Path.{◌≡◌, subst, sym}
use base.Logic.{ent, emp, id⊢}
use mir.Syntax.{Fn, Callee as Key}
use seplogic.Ra.Ura.{Ura}
use types.Logic.{Logic}
use prog.Wp.{Tables, Closed, WpFn}
use prog.Routine.{Env}
use contract.Lifetimes.{Lfts}
use contract.Monad.{top}
use contract.Running.{tables}
use denote.Triple.Clauses.{AtExit, at_exit}
use denote.Triple.Statement.{Triple}
use borrow.Fn.Kind.{ParamKind, ResultKind}
use borrow.Fn.Kinds.{In as Inᴷ, Out as Outᴷ, ended_of, stays}
use borrow.Fn.Function.{S}
use borrow.Fn.Plain.{plain_of, Known}
use borrow.Fn.Run.{Over}
use borrow.Fn.World.{World, Pr, ArgsD, ResD, In}
use borrow.Fn.Read.{Read, all∗, no_know}
use borrow.Fn.Learn.{no_pin, no_own, no_pins, no_owns}
use borrow.Fn.Claims.{AllOf}
use borrow.Fn.Written as Written
use Rattle.derivations.proofs.Derive.{Kit, Callee}
use borrow.Fn.Picked.{KnownAs}

module _ (n : ℕ) (ps : List (ParamKind n)) (r : ResultKind n) where
  abbrev pub Pins : (κs : Lfts n) → ArgsD (S n ps r [] 0) κs → (w : World) → Type 1
  Pins κs = no_pin (S n ps r [] 0) κs

  abbrev pub Owns : (κs : Lfts n) → ResD (S n ps r [] 0) κs → AtExit (ended_of n ps r) κs → (w : World) → Type 1
  Owns κs = no_own (ended_of n ps r) κs

  abbrev pub Base : (κs : Lfts n) → ArgsD (S n ps r [] 0) κs → (w : World) → Pr w
  Base = Written.Base n ps r Pins

  abbrev pub Reqs : Type 2
  Reqs = (κs : Lfts n) → ArgsD (S n ps r [] 0) κs → Unit {0} → (w : World) → Pr w

  abbrev pub Enss : Type 2
  Enss = (κs : Lfts n) → ArgsD (S n ps r [] 0) κs → Unit {0} → ResD (S n ps r [] 0) κs → AtExit (ended_of n ps r) κs → (w : World) → Pr w

  -- the readings of the clauses
  abbrev pub ReadReq : Reqs → Type 2
  ReadReq req = (κs : Lfts n) (a : ArgsD (S n ps r [] 0) κs) (g : Unit {0}) → Read (In (S n ps r [] 0) κs a) no_know (req κs a g)

  abbrev pub ReadEns : Enss → Type 2
  ReadEns ens = (κs : Lfts n) (a : ArgsD (S n ps r [] 0) κs) (g : Unit {0}) (z : ResD (S n ps r [] 0) κs) (e : AtExit (ended_of n ps r) κs) → Read (Base κs a) (Owns κs z e) (ens κs a g z e)

-- a contract of plain facts: the kinds, the clauses, their readings, that nothing is held and nothing is wanted (each `refl` or `tt`), and the key
pub record Contract : Type 3 where
  pub n : ℕ
  pub ps : List (ParamKind n)
  pub r : ResultKind n
  pub req : Reqs n ps r
  pub ens : Enss n ps r
  pub rq : ReadReq n ps r req
  pub en : ReadEns n ps r ens
  pub name : Key
  pub no_held : (w : World) (κs : Lfts n) (a : ArgsD (S n ps r [] 0) κs) → (rq κs a tt).held w ≡ []
  pub no_held' : (w : World) (κs : Lfts n) (a : ArgsD (S n ps r [] 0) κs) (z : ResD (S n ps r [] 0) κs) (e : AtExit (ended_of n ps r) κs) → (en κs a tt z e).held w ≡ []
  pub no_wants : Written.Wanted n ps r (Unit {0}) req ens rq (Pins n ps r) (Owns n ps r) en
  pub no_wants' : (κs : Lfts n) (a : ArgsD (S n ps r [] 0) κs) (z : ResD (S n ps r [] 0) κs) (e : AtExit (ended_of n ps r) κs) → AllOf (en κs a tt z e).wants

module _ (c : Contract) where
  abbrev P : (κs : Lfts c.n) → ArgsD (S c.n c.ps c.r [] 0) κs → (w : World) → Type 1
  P = Pins c.n c.ps c.r

  abbrev O : (κs : Lfts c.n) → ResD (S c.n c.ps c.r [] 0) κs → AtExit (ended_of c.n c.ps c.r) κs → (w : World) → Type 1
  O = Owns c.n c.ps c.r

  abbrev pub Pre : Inᴷ c.n c.ps
  Pre = Written.Pre c.n c.ps c.r (Unit {0}) c.req c.ens c.rq P O c.en tt

  abbrev pub Post : Outᴷ c.n c.ps c.r
  Post = Written.Post c.n c.ps c.r (Unit {0}) c.req c.ens c.rq P O c.en tt

  abbrev pub Asked : Inᴷ c.n c.ps
  Asked = Written.Asked c.n c.ps c.r (Unit {0}) c.req c.ens c.rq P O c.en tt

  abbrev pub Learnt : Outᴷ c.n c.ps c.r
  Learnt = Written.Learnt c.n c.ps c.r (Unit {0}) c.req c.ens c.rq P O c.en tt

  -- what a caller's derivation takes of the function, and its theorem made into that
  abbrev pub Knows : {M : Type 1} {𝓤 : Ura M} (𝓛 : Logic 𝓤) → Tables 𝓤 𝓛.H → Type 1
  Knows 𝓛 𝓣 = Known 𝓛 𝓣 c.n c.ps c.r Asked Learnt c.name

  abbrev pub callee : {K : Kit} → Knows K.𝓛 K.𝓣 → Callee K
  callee k = record { n = c.n; ps = c.ps; r = c.r; P = Asked; Q = Learnt; name = c.name; known = k }

  pub known : KnownAs c.n c.ps c.r (Unit {0}) c.req c.ens Asked Learnt
  known w γ k ρ same met =
      Written.cited c.n c.ps c.r (Unit {0}) c.req c.ens c.rq P O c.en w γ k ρ same (λ κs a. tt)
      (λ κs a. subst (λ hs. ent w.𝓤 (emp w.𝓤) (all∗ w hs)) (sym (c.no_held w κs a)) (id⊢ w.𝓤 (emp w.𝓤)))
      (λ κs a z ws ft p. c.no_wants' κs a z (at_exit (ended_of c.n c.ps c.r) κs a ws))
      (λ κs. no_pins (S c.n c.ps c.r [] 0) κs w) met

  -- the plain triple of the function's MIR gives its theorem
  pub close : (w : World) (γ : Env) (e : Fn) → Closed w.𝓤 w.𝓛.H (tables w.𝓤 w.𝓛.H w.𝓜 w.𝓡 γ).C (tables w.𝓤 w.𝓛.H w.𝓜 w.𝓡 γ).Λ c.name e
      → Triple w.𝓤 (WpFn w.𝓤 w.𝓛.H (Over w.𝓛 w.𝓜 w.𝓡 γ).C (Over w.𝓛 w.𝓜 w.𝓡 γ).Λ e) (plain_of w.𝓛 c.n c.ps c.r Pre Post)
      → Written.Holds c.n c.ps c.r (Unit {0}) c.req c.ens w (w.𝓡.run (γ c.name))
  close w γ e cl t =
      Written.close c.n c.ps c.r (Unit {0}) c.req c.ens c.rq P O c.en w γ c.name e cl c.no_wants (λ κs. no_owns (ended_of c.n c.ps c.r) (stays c.ps) κs w)
      (λ κs a g z ws ft p q. subst (λ hs. ent w.𝓤 (all∗ w ((c.rq κs a g).held w)) (all∗ w hs)) (sym (c.no_held' w κs a z (at_exit (ended_of c.n c.ps c.r) κs a ws))) (top w.𝓤 (all∗ w ((c.rq κs a g).held w))))
      (λ g. t)
