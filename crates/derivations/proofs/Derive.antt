-- The borrow checker's rules, on derivations. `Der K Γ b Δ` is a transformer together with a derivation of the body b at it, from the table Γ to the
-- tables Δ; each rule goes from the derivation of what follows to that of the whole. So a derivation is one term, a line for each step, in which no
-- table, no transformer and no piece of the body is written out: they follow from the goal. K has what every rule takes: the model, the heap, the
-- rules, the tables of calls, and where the locals are.
-- Assumes nothing.
use Prim.Native.Nat.{ℕ, zero, suc}
use mathlib.Core.List.{List, [], ◌∷◌}
use mathlib.Core.Path.{◌≡◌, refl, ap}
use mathlib.Core.Option.{Option, some, none}
use mathlib.Core.Bool.{Bool}
use seplogic.Ra.Ura.{Ura}
use lib.Dec.{T}
use mir.Syntax.{Ty, Local, local, Home, Body, seq, call, place, assign, addr_of, aggregate, copy, field, deref, cond, block, loop, return, skip, exit, unreachable, call_v, lend_static, switch, Arms, arm, default, no_default, Width, ty_bool, ty_int, w64, tcons, tnil, Callee as Key}
use mir.Val.{vbool, vint, vptr, has_ty}
use prog.Memory.{field_of, field_at}
use base.Logic.{ent, via, never_e}
use sound.WpLaws.{Wp-mono}
use prog.Wp.{Env, Tables, spot_of, Wp, Out as Way, next, exits as exit·, returns}
use types.Logic.{Logic}
use denote.RattleType.{RattleType, RowLaws}
use denote.Ref.{MutBor}
use denote.Memory.{lone}
use denote.Slice.{slice_ty, slice_val}
use borrow.Table.Row.{Cx, Row, Rho, Life, Fresh, get_row, get_life, set_life, off, dead, alive, IsTok}
use borrow.Table.Rows.{any_gone}
use borrow.Table.Typed.{Outs, TF, Tf, Typed, Stmt, Ghost, the, Leaves, Mo, Want, with_next, in_block₀, in_loop₀, ent₁, ent₂, tab₂, both, want_next, want_only, in_block, LoopBy, exit_at, at_exit, only, post, holds, holds_at_out, enters, s_seq, g_pre_lem, t_seq, t_return, t_skip, t_exit, t_block, t_loop_by}
use borrow.Table.Reads.{As, ToRoom, ReadsAs}
use borrow.Rule.Lifetime.{g_begin, g_end, g_forget, Begun, Ended, Forgot}
use borrow.Rule.Scalar.{g_room, After, Oper, HasO, op_o, val_o, t_cond, Φcond}
use borrow.Rule.Switch.{Wants, TypedArms, Φswitch_by, t_switch_on}
use borrow.Rule.Slice.Mut.{mslice, msleft}
use borrow.Table.Reads.{as_is, room_gone}
use borrow.Table.Rows.{whole}
use borrow.Table.Copies.{Cp, c_struct, c_enum}
use borrow.Rule.Local.{room_whole, mem_whole, whole_mem}
use borrow.Rule.Yields.{Yields-copy, Makes-mem, Yields, Makes}
use borrow.Table.OneValue.{One}
use borrow.Fn.Kind.{ParamKind, ResultKind}
use borrow.Fn.Kinds.{In, Out, DestOk, ty_rc}
use borrow.Fn.Args.{ArgsT, Has, ops_v, outs_m}
use borrow.Fn.Call.{Γafter, call_b, sub_id}
use borrow.Fn.Plain.{Known, t_call_plain}
use borrow.Rule.Token.Call.{HasH}
use borrow.Kind.Value.{p_val, r_val, Valued, ValuedLaws}
use denote.Exit.{yes}
use denote.Struct.Declared.{Declared, row}
use denote.Struct.Laws as L
use denote.Struct.Struct.{Plains}
use denote.Enum.Declared as E
use denote.Enum.Laws as N
use denote.Enum.Enum.{Plainss, Few}
use borrow.Table.Own.{Told, Told-none}
use borrow.Rule.Token.Open.{Takes-whole}
use borrow.Rule.Array.Share.{LendsEach}
use borrow.Rule.SharedLend.{each_copy}
use borrow.Rule.Slice.Relend.{t_sl_relend, t_sl_aggregate, g_back_sl, AfterLend, AfterAgg, AfterBack, Owns, slptr, mslice_owed}
use borrow.Rule.Slice.Reshare.{t_sl_reshare_as, g_back_sl_shr, AfterReshare, AfterBackShr, mslice_owed_s}

pub record Kit : Type 2 where
  pub M : Type 1
  pub 𝓤 : Ura M
  pub 𝓛 : Logic 𝓤
  pub 𝓣 : Tables 𝓤 𝓛.H
  pub E : Env 𝓤 𝓛.H

pub record Der (K : Kit) (Γ : Cx) (b : Body) (Δ : Outs) : Type 2 where
  pub Φ : TF Γ Δ
  pub typed : Typed K.𝓛 K.𝓣 K.E Γ b Δ Φ

module _ {M : Type 1} {𝓤 : Ura M} (𝓛 : Logic 𝓤) (𝓣 : Tables 𝓤 𝓛.H) (E : Env 𝓤 𝓛.H) where
  open 𝓛 use {H}

  once : (g : Option Cx) → Leaves g → (Ψ : Mo (the g) → Type 0) → ent 𝓤 (H.⇛ (holds_at_out 𝓛 E next g Ψ)) (holds_at_out 𝓛 E next g Ψ)
  once none z Ψ = absurd z
  once (some Γ) z Ψ = 𝓛.laws.⇛_trans (holds 𝓛 E Γ Ψ)

  -- a statement, and ghost steps after it
  pub falls : (Γ Γ₁ : Cx) (a : Body) (Δ : Outs) (φ : Tf Γ Γ₁) (Φ : TF Γ₁ Δ) → Leaves Δ.next → Stmt 𝓛 𝓣 E Γ a Γ₁ φ → Typed 𝓛 𝓣 E Γ₁ skip Δ Φ → Typed 𝓛 𝓣 E Γ a Δ (λ Ψ. φ (Φ Ψ))
  falls Γ Γ₁ a Δ φ Φ z s t = record {
    go = λ Ψ ρ u p. via 𝓤 (Wp 𝓤 H 𝓣.C 𝓣.Λ E a (post 𝓛 E (only Γ₁) (want_only Γ₁ (Φ Ψ)))) (s.go (Φ Ψ) ρ u p)
        (Wp-mono 𝓤 H 𝓛.laws 𝓣 E a (post 𝓛 E (only Γ₁) (want_only Γ₁ (Φ Ψ))) (post 𝓛 E Δ Ψ) (into Ψ));
  }
    where
      into : (Ψ : Want Δ) (o : Way) → ent 𝓤 (post 𝓛 E (only Γ₁) (want_only Γ₁ (Φ Ψ)) o) (post 𝓛 E Δ Ψ o)
      into Ψ next = via 𝓤 (H.⇛ (post 𝓛 E Δ Ψ next)) (enters 𝓛 𝓣 E Γ₁ skip Δ Φ t Ψ) (once Δ.next z Ψ.0)
      into Ψ (exit· n) = never_e 𝓤 (post 𝓛 E Δ Ψ (exit· n))
      into Ψ returns = never_e 𝓤 (post 𝓛 E Δ Ψ returns)

pub record Callee (K : Kit) : Type 3 where
  pub n : ℕ
  pub ps : List (ParamKind n)
  pub r : ResultKind n
  pub P : In n ps
  pub Q : Out n ps r
  pub name : Key
  pub known : Known K.𝓛 K.𝓣 n ps r P Q name

module _ {K : Kit} {Γ : Cx} where
  -- a call
  abbrev pub call_s : (g : Callee K) (ar : ArgsT g.ps Γ.locals) (nd : ℕ) (βs : List ℕ) → Has K.𝓛 K.E g.n βs (λ pos β. β) g.ps Γ.locals ar
      → ToRoom K.𝓛 (get_row nd (outs_m g.ps Γ.locals ar)).1 (ty_rc g.r (spot_of K.𝓤 K.𝓛.H K.E (get_row nd (outs_m g.ps Γ.locals ar)).0).0)
      → HasH g.n βs Γ.slots → DestOk g.r βs (spot_of K.𝓤 K.𝓛.H K.E (get_row nd (outs_m g.ps Γ.locals ar)).0).0
      → Stmt K.𝓛 K.𝓣 K.E Γ (call g.name (ops_v g.ps Γ.locals ar) (place (get_row nd (outs_m g.ps Γ.locals ar)).0 []))
      (Γafter g.ps g.r Γ ar nd βs (spot_of K.𝓤 K.𝓛.H K.E (get_row nd (outs_m g.ps Γ.locals ar)).0).0) (both (call_b g.ps g.r g.P g.Q Γ ar nd βs (spot_of K.𝓤 K.𝓛.H K.E (get_row nd (outs_m g.ps Γ.locals ar)).0).0))
  call_s g ar nd βs h r hh dk = t_call_plain K.𝓛 K.𝓣 g.n g.ps g.r g.P g.Q g.name g.known K.E (λ pos β. β) Γ ar nd βs (sub_id K.𝓛 Γ.slots) h r hh dk

-- a statement before a derivation: what `then` and the rules of single statements are made of
module _ {K : Kit} {Γ Γ₁ : Cx} {a : Body} {φ : Tf Γ Γ₁} (s : Stmt K.𝓛 K.𝓣 K.E Γ a Γ₁ φ) where
  abbrev before : {b : Body} {Δ : Outs} (d : Der K Γ₁ b Δ) → Der K Γ (seq a b) Δ
  before {b} {Δ} d = record { Φ = λ Ψ. φ (d.Φ Ψ); typed = s_seq K.𝓛 K.𝓣 K.E Γ Γ₁ a b Δ φ d.Φ s d.typed }

module _ {K : Kit} {Γ : Cx} {Δ : Outs} where
  -- a statement, and what follows
  abbrev pub then : {Γ₁ : Cx} {a b : Body} {φ : Tf Γ Γ₁} → Stmt K.𝓛 K.𝓣 K.E Γ a Γ₁ φ → Der K Γ₁ b Δ → Der K Γ (seq a b) Δ
  then s d = before s d

  -- a ghost step, and what follows
  abbrev pub pre : {Γ₁ : Cx} {b : Body} {φ : Tf Γ Γ₁} → Ghost K.𝓛 K.E Γ Γ₁ φ → Der K Γ₁ b Δ → Der K Γ b Δ
  pre {Γ₁} {b} {φ} g d = record { Φ = λ Ψ. φ (d.Φ Ψ); typed = g_pre_lem K.𝓛 K.𝓣 K.E Γ Γ₁ b Δ φ d.Φ g d.typed }

  abbrev pub begin : {b : Body} (α : ℕ) → Fresh α Γ.locals → Der K (Begun Γ α) b Δ → Der K Γ b Δ
  begin α f d = pre (g_begin K.𝓛 K.E Γ α f) d

  abbrev pub end : {b : Body} (α : ℕ) → get_life α Γ.slots ≡ alive → Der K (Ended Γ α) b Δ → Der K Γ b Δ
  end α e d = pre (g_end K.𝓛 K.E Γ α e) d

  abbrev pub forget : {b : Body} (α : ℕ) (l : Life) → get_life α Γ.slots ≡ l → Der K (Forgot Γ α) b Δ → Der K Γ b Δ
  forget α l e d = pre (g_forget K.𝓛 K.E Γ α l e) d

  -- a local is let go
  abbrev pub room : {b : Body} (n : ℕ) (τ : Ty) → ToRoom K.𝓛 (get_row n Γ.locals).1 τ → Der K (After Γ n (any_gone τ)) b Δ → Der K Γ b Δ
  room n τ r d = pre (g_room K.𝓛 K.E Γ n τ r) d

  -- `p = addr_of (m.0.*)` and `t = aggregate [p, m.1]`: a `&mut [T]` is lent again, as `&mut` or as `&`
  abbrev pub relend : {b : Body} (R : RattleType) (nm nd α β : ℕ) (τ τ' : Ty) (l : Life) (hm : (ent₁ Γ nm nd).1.Mod → MutBor (List R.Denot)) → As K.𝓛 (ent₁ Γ nm nd).1 (mslice R τ α) hm
      → ToRoom K.𝓛 (ent₂ Γ nm nd).1 τ' → (get_life α Γ.slots ≡ l) × IsTok l × (field_of (spot_of K.𝓤 K.𝓛.H K.E (ent₁ Γ nm nd).0).0 0 ≡ some (τ, 0)) × (field_at zero (tcons τ (tcons (ty_int w64) tnil)) 0 ≡ some (τ, 0)) × ((spot_of K.𝓤 K.𝓛.H K.E (ent₂ Γ nm nd).0).0 ≡ τ') × ((b o : ℕ) → T (has_ty τ' (vptr b o)))
      → Der K (AfterLend R Γ nm nd α β τ τ' l) b Δ → Der K Γ (seq (assign (place (ent₂ Γ nm nd).0 []) (addr_of (place (ent₁ Γ nm nd).0 (field 0 ∷ deref (lone R.mir) ∷ [])))) b) Δ
  relend R nm nd α β τ τ' l hm a r o d = before (t_sl_relend K.𝓛 K.E R K.𝓣 Γ nm nd α β τ τ' l 0 hm a r o.0 o.1 o.2 o.3 o.4 o.5) d

  -- The elements are shared out meanwhile, by what is known of the lifetimes (P) and of their type (`LendsEach`)
  abbrev pub reshare : {b : Body} (R : RattleType) → RowLaws R → (P : Rho → Type 0) (nm nd α β : ℕ) (τ τ' : Ty) (l : Life) (hm : (ent₁ Γ nm nd).1.Mod → MutBor (List R.Denot))
      → Told K.𝓛 Γ.slots P → LendsEach K.𝓛 P (set_life α off Γ.slots) R β → As K.𝓛 (ent₁ Γ nm nd).1 (mslice R τ α) hm
      → ToRoom K.𝓛 (ent₂ Γ nm nd).1 τ' → (get_life α Γ.slots ≡ l) × IsTok l × (field_of (spot_of K.𝓤 K.𝓛.H K.E (ent₁ Γ nm nd).0).0 0 ≡ some (τ, 0)) × (field_at zero (tcons τ (tcons (ty_int w64) tnil)) 0 ≡ some (τ, 0)) × ((spot_of K.𝓤 K.𝓛.H K.E (ent₂ Γ nm nd).0).0 ≡ τ') × ((b o : ℕ) → T (has_ty τ' (vptr b o)))
      → Der K (AfterReshare R Γ nm nd α β τ τ' l) b Δ → Der K Γ (seq (assign (place (ent₂ Γ nm nd).0 []) (addr_of (place (ent₁ Γ nm nd).0 (field 0 ∷ deref (lone R.mir) ∷ [])))) b) Δ
  reshare R lw P nm nd α β τ τ' l hm kn ln a r o d = before (t_sl_reshare_as K.𝓛 K.E R K.𝓣 lw P Γ nm nd α β τ τ' l (set_life α off Γ.slots) 0 hm kn ln a r (Takes-whole K.𝓛 α Γ.slots l o.0 o.1) o.2 o.3 o.4 o.5) d

  -- the same where the elements' type is Copy, of which nothing else is asked
  abbrev pub reshare_copy : {b : Body} (R : RattleType) → RowLaws R → Cp R → (nm nd α β : ℕ) (τ τ' : Ty) (l : Life) (hm : (ent₁ Γ nm nd).1.Mod → MutBor (List R.Denot)) → As K.𝓛 (ent₁ Γ nm nd).1 (mslice R τ α) hm
      → ToRoom K.𝓛 (ent₂ Γ nm nd).1 τ' → (get_life α Γ.slots ≡ l) × IsTok l × (field_of (spot_of K.𝓤 K.𝓛.H K.E (ent₁ Γ nm nd).0).0 0 ≡ some (τ, 0)) × (field_at zero (tcons τ (tcons (ty_int w64) tnil)) 0 ≡ some (τ, 0)) × ((spot_of K.𝓤 K.𝓛.H K.E (ent₂ Γ nm nd).0).0 ≡ τ') × ((b o : ℕ) → T (has_ty τ' (vptr b o)))
      → Der K (AfterReshare R Γ nm nd α β τ τ' l) b Δ → Der K Γ (seq (assign (place (ent₂ Γ nm nd).0 []) (addr_of (place (ent₁ Γ nm nd).0 (field 0 ∷ deref (lone R.mir) ∷ [])))) b) Δ
  reshare_copy R lw c nm nd α β τ τ' l hm a r o d =
      reshare R lw (λ ρ. Unit {0}) nm nd α β τ τ' l hm (Told-none K.𝓛 Γ.slots) (each_copy K.𝓛 (λ ρ. Unit {0}) (set_life α off Γ.slots) R lw β c) a r o d

  abbrev pub slice : {b : Body} (R : RattleType) (O : Owns R) (np nd β : ℕ) (τ τ' : Ty) (hp : (ent₁ Γ np nd).1.Mod → O.Of) (n : Oper (tab₂ Γ np nd)) → As K.𝓛 (ent₁ Γ np nd).1 (slptr R O τ β) hp
      → ToRoom K.𝓛 (ent₂ Γ np nd).1 (slice_ty τ') → HasO K.𝓛 K.E (tab₂ Γ np nd) n
      → ((spot_of K.𝓤 K.𝓛.H K.E (ent₁ Γ np nd).0).0 ≡ τ) × ((spot_of K.𝓤 K.𝓛.H K.E (ent₂ Γ np nd).0).0 ≡ slice_ty τ') × ((b o k : ℕ) → T (has_ty (slice_ty τ') (slice_val (b, o) k)))
      → Der K (AfterAgg R O Γ np nd β τ τ') b Δ → Der K Γ (seq (assign (place (ent₂ Γ np nd).0 []) (aggregate (copy (place (ent₁ Γ np nd).0 []) ∷ op_o (tab₂ Γ np nd) n ∷ []))) b) Δ
  slice R O np nd β τ τ' hp n a r h o d = before (t_sl_aggregate K.𝓛 K.E R K.𝓣 O Γ np nd β τ τ' hp n a r h o.0 o.1 o.2) d

  -- the way back
  abbrev pub back : {b : Body} (R : RattleType) (nd nm α β : ℕ) (τ τ' : Ty) (l : Life) (hd : (ent₁ Γ nd nm).1.Mod → MutBor (List R.Denot)) (hm : (ent₂ Γ nd nm).1.Mod → MutBor (List R.Denot) × ℕ)
      → As K.𝓛 (ent₁ Γ nd nm).1 (msleft R τ') hd → As K.𝓛 (ent₂ Γ nd nm).1 (mslice_owed R τ α β l) hm → get_life β Γ.slots ≡ dead → get_life α (set_life β dead (set_life β off Γ.slots)) ≡ off
      → Der K (AfterBack R Γ nd nm α β τ τ' l) b Δ → Der K Γ b Δ
  back R nd nm α β τ τ' l hd hm a a' e e' d = pre (g_back_sl K.𝓛 K.E R Γ nd nm α β τ τ' l hd hm a a' e e') d

  abbrev pub back_s : {b : Body} (R : RattleType) (nm α β : ℕ) (τ : Ty) (l : Life) (hm : (get_row nm Γ.locals).1.Mod → MutBor (List R.Denot)) → As K.𝓛 (get_row nm Γ.locals).1 (mslice_owed_s R τ α β l) hm
      → get_life β Γ.slots ≡ dead → get_life α (set_life β dead (set_life β off Γ.slots)) ≡ off → Der K (AfterBackShr R Γ nm α β τ l) b Δ → Der K Γ b Δ
  back_s R nm α β τ l hm a e e' d = pre (g_back_sl_shr K.𝓛 K.E R Γ nm α β τ l hm a e e') d

  -- a call, and what follows
  abbrev pub calls : {b : Body} (g : Callee K) (ar : ArgsT g.ps Γ.locals) (nd : ℕ) (βs : List ℕ) → Has K.𝓛 K.E g.n βs (λ pos β. β) g.ps Γ.locals ar
      → ToRoom K.𝓛 (get_row nd (outs_m g.ps Γ.locals ar)).1 (ty_rc g.r (spot_of K.𝓤 K.𝓛.H K.E (get_row nd (outs_m g.ps Γ.locals ar)).0).0)
      → HasH g.n βs Γ.slots → DestOk g.r βs (spot_of K.𝓤 K.𝓛.H K.E (get_row nd (outs_m g.ps Γ.locals ar)).0).0
      → Der K (Γafter g.ps g.r Γ ar nd βs (spot_of K.𝓤 K.𝓛.H K.E (get_row nd (outs_m g.ps Γ.locals ar)).0).0) b Δ
      → Der K Γ (seq (call g.name (ops_v g.ps Γ.locals ar) (place (get_row nd (outs_m g.ps Γ.locals ar)).0 [])) b) Δ
  calls g ar nd βs h r hh dk d = before (call_s g ar nd βs h r hh dk) d

  -- the last statement of its part: the ghost steps that follow end in `skips`
  abbrev pub ends : {Γ₁ : Cx} {a : Body} {φ : Tf Γ Γ₁} → Leaves Δ.next → Stmt K.𝓛 K.𝓣 K.E Γ a Γ₁ φ → Der K Γ₁ skip Δ → Der K Γ a Δ
  ends {Γ₁} {a} {φ} z s d = record { Φ = λ Ψ. φ (d.Φ Ψ); typed = falls K.𝓛 K.𝓣 K.E Γ Γ₁ a Δ φ d.Φ z s d.typed }

  -- the general sequence: f makes the table where the two parts meet
  abbrev pub seqs : {a b : Body} (f : Cx → Cx) → Der K Γ a (with_next (some (f Γ)) Δ) → Der K (f Γ) b Δ → Der K Γ (seq a b) Δ
  seqs {a} {b} f d d' = record { Φ = λ Ψ. d.Φ (want_next (f Γ) Δ (d'.Φ Ψ) Ψ); typed = t_seq K.𝓛 K.𝓣 K.E Γ (f Γ) a b Δ d.Φ d'.Φ d.typed d'.typed }

  abbrev pub conds : {a b : Body} (nc : ℕ) (t : (get_row nc Γ.locals).1.Mod → Bool) → ReadsAs K.𝓛 (get_row nc Γ.locals).1 ty_bool (λ x. vbool (t x)) → (spot_of K.𝓤 K.𝓛.H K.E (get_row nc Γ.locals).0).0 ≡ ty_bool
      → Der K Γ a Δ → Der K Γ b Δ → Der K Γ (cond (copy (place (get_row nc Γ.locals).0 [])) a b) Δ
  conds {a} {b} nc t rd e d d' = record { Φ = Φcond Γ Δ nc t d.Φ d'.Φ; typed = t_cond K.𝓛 K.E K.𝓣 Γ nc t a b Δ d.Φ d'.Φ rd e d.typed d'.typed }

  abbrev pub blocks : {b : Body} → Der K Γ b (in_block₀ Δ) → Der K Γ (block b) Δ
  blocks {b} d = record { Φ = λ Ψ. d.Φ (in_block Δ Ψ); typed = t_block K.𝓛 K.𝓣 K.E Γ b Δ d.Φ d.typed }

  -- the loop by values: put writes the values that a turn may change into the model at its head
  abbrev pub loops : {b : Body} {Vs : Type 0} (put : Vs → Mo Γ → Mo Γ) (I : Mo Γ → Vs → Type 0) (μ : Mo Γ → Vs → ℕ) → Der K Γ b (in_loop₀ Γ Δ) → Der K Γ (loop b) Δ
  loops {b} put I μ d = record { Φ = LoopBy Γ Δ put I μ d.Φ; typed = t_loop_by K.𝓛 K.𝓣 K.E Γ b Δ put I μ d.Φ d.typed }

-- a `match` on a number: a derivation for each arm
module _ (K : Kit) (Γ : Cx) (Δ : Outs) where
  abbrev pub DerArms : Arms → Type 2
  DerArms (arm ks b arms) = Der K Γ b Δ × DerArms arms
  DerArms (default b) = Der K Γ b Δ
  DerArms no_default = Unit {2}

  abbrev pub wants_of : (arms : Arms) → DerArms arms → Wants Γ Δ arms
  wants_of (arm ks b arms) ds = (ds.0.Φ, wants_of arms ds.1)
  wants_of (default b) d = d.Φ
  wants_of no_default d = tt

  abbrev pub typed_of : (arms : Arms) (ds : DerArms arms) → TypedArms K.𝓛 K.𝓣 K.E Γ Δ arms (wants_of arms ds)
  typed_of (arm ks b arms) ds = (ds.0.typed, typed_of arms ds.1)
  typed_of (default b) d = d.typed
  typed_of no_default d = tt

module _ {K : Kit} {Γ : Cx} {Δ : Outs} where
  abbrev pub switches : {arms : Arms} (x : Oper Γ.locals) (w : Width) (n : Mo Γ → ℕ) → HasO K.𝓛 K.E Γ.locals x → ((u : Mo Γ) → val_o Γ.locals x u ≡ vint w (n u)) → DerArms K Γ Δ arms → Der K Γ (switch (op_o Γ.locals x) arms) Δ
  switches {arms} x w n h e ds = record { Φ = Φswitch_by Γ Δ n arms (wants_of K Γ Δ arms ds); typed = t_switch_on K.𝓛 K.E K.𝓣 Γ x w n arms Δ (wants_of K Γ Δ arms ds) h e (typed_of K Γ Δ arms ds) }

module _ {K : Kit} {Δ : Outs} where
  abbrev pub exits : (n : ℕ) → Leaves (exit_at n Δ) → Der K (the (exit_at n Δ)) (exit n) Δ
  exits n z = record { Φ = at_exit n Δ; typed = t_exit K.𝓛 K.𝓣 K.E n Δ z }

  -- the ends
  abbrev pub ret : Leaves Δ.returns → Der K (the Δ.returns) return Δ
  ret z = record { Φ = λ Ψ. Ψ.2; typed = t_return K.𝓛 K.𝓣 K.E Δ z }

  abbrev pub skips : Leaves Δ.next → Der K (the Δ.next) skip Δ
  skips z = record { Φ = λ Ψ. Ψ.0; typed = t_skip K.𝓛 K.𝓣 K.E Δ z }

-- what the rules ask of rows, with K for what each law takes
module _ (K : Kit) where
  abbrev pub is : (r : Row) → As K.𝓛 r r (λ x. x)
  is = as_is K.𝓛

  abbrev pub gone : (τ : Ty) → ToRoom K.𝓛 (any_gone τ) τ
  gone = room_gone K.𝓛

  -- a struct in a local: it is copied, and its local is let go
  abbrev pub copied : (T : Declared) (l : L.Laws T) (c : L.Copyables T.parts) → Yields K.𝓛 (λ ρ. Unit {0}) (lone (row T).mir) (whole (row T)) (whole (row T)) (row T) (λ x. x) (λ x. x)
  copied T l c = Yields-copy K.𝓛 (λ ρ. Unit {0}) (row T) refl ((c_struct T l c).copy K.𝓛) (whole (row T)) (λ x. x) (λ x. x) (λ ρ told. mem_whole K.𝓛 (row T) ρ) (λ ρ told. whole_mem K.𝓛 (row T) ρ)

  abbrev pub copied_enum : (T : E.Declared) (l : N.Laws T) (c : N.Copyabless T.parts) → Yields K.𝓛 (λ ρ. Unit {0}) (lone (E.row T).mir) (whole (E.row T)) (whole (E.row T)) (E.row T) (λ x. x) (λ x. x)
  copied_enum T l c = Yields-copy K.𝓛 (λ ρ. Unit {0}) (E.row T) refl ((c_enum T l c).copy K.𝓛) (whole (E.row T)) (λ x. x) (λ x. x) (λ ρ told. mem_whole K.𝓛 (E.row T) ρ) (λ ρ told. whole_mem K.𝓛 (E.row T) ρ)

  abbrev pub made : (R : RattleType) (one : One R) → Makes K.𝓛 (λ ρ. Unit {0}) (lone R.mir) (whole R) R (λ x. x)
  made R one = Makes-mem K.𝓛 (λ ρ. Unit {0}) R one (whole R) (λ x. x) (λ ρ told. whole_mem K.𝓛 R ρ)

  abbrev pub let_go : (R : RattleType) → ToRoom K.𝓛 (whole R) (lone R.mir)
  let_go R = room_whole K.𝓛 R (lone R.mir) refl

-- a function's other locals, from its MIR
abbrev pub tys_of : ℕ → List Local → List Ty
tys_of n [] = []
tys_of zero (local τ h ∷ ls) = τ ∷ tys_of zero ls
tys_of (suc n) (l ∷ ls) = tys_of n ls

abbrev pub homes_of : List Local → List Home
homes_of [] = []
homes_of (local τ h ∷ ls) = h ∷ homes_of ls

-- what is left of a body after n statements, for a derivation that is cut in two
abbrev rest : Body → Body
rest skip = skip
rest (seq a b) = b
rest (assign p v) = skip
rest (block b) = skip
rest (loop b) = skip
rest (cond c a b) = skip
rest (switch c arms) = skip
rest (exit n) = skip
rest return = skip
rest (call k os p) = skip
rest unreachable = skip
rest (call_v f σ os p) = skip
rest (lend_static p τ c) = skip

abbrev pub after : ℕ → Body → Body
after zero b = b
after (suc n) b = after n (rest b)

-- a struct by value, as a parameter and as a result
module _ (T : Declared) (l : L.Laws T) (c : L.Copyables T.parts) (p : Plains (denote.Struct.Declared.fields T)) where
  abbrev valued : Valued
  valued = record { ty = row T; one = refl; val = L.val T l; tells = L.tells T l; still = L.still T c yes; row = whole (row T); rd = λ x. x; mk = λ x. x }

  abbrev laws : {M : Type 1} {𝓤 : Ura M} (𝓛 : Logic 𝓤) → ValuedLaws 𝓛 valued
  laws 𝓛 = record { copies = L.copy T c 𝓛; lawful = L.lawful T l 𝓛; makes = L.makes T p 𝓛; in_mem = mem_whole 𝓛 (row T); of_mem = whole_mem 𝓛 (row T) }

  abbrev pub p_struct : {n : ℕ} → ParamKind n
  p_struct = p_val valued (λ M 𝓤 𝓛. laws 𝓛)

  abbrev pub r_struct : {n : ℕ} → ResultKind n
  r_struct = r_val valued (λ M 𝓤 𝓛. laws 𝓛)

-- an enum by value, as a parameter and as a result
module _ (T : E.Declared) (l : N.Laws T) (c : N.Copyabless T.parts) (p : Plainss (E.variants T)) (few : Few (E.shape T)) where
  abbrev enum_valued : Valued
  enum_valued = record { ty = E.row T; one = refl; val = N.val T l; tells = N.tells T l; still = N.still T c yes; row = whole (E.row T); rd = λ x. x; mk = λ x. x }

  abbrev enum_laws : {M : Type 1} {𝓤 : Ura M} (𝓛 : Logic 𝓤) → ValuedLaws 𝓛 enum_valued
  enum_laws 𝓛 = record { copies = N.copy T c 𝓛; lawful = N.lawful T l 𝓛 few; makes = N.makes T p 𝓛; in_mem = mem_whole 𝓛 (E.row T); of_mem = whole_mem 𝓛 (E.row T) }

  abbrev pub p_enum : {n : ℕ} → ParamKind n
  p_enum = p_val enum_valued (λ M 𝓤 𝓛. enum_laws 𝓛)

  abbrev pub r_enum : {n : ℕ} → ResultKind n
  r_enum = r_val enum_valued (λ M 𝓤 𝓛. enum_laws 𝓛)

-- at a return, a `&mut [T]` is where it was, under its name, and as long as it was
pub fix : {p : ℕ × ℕ} {γ m k : ℕ} → m ≡ k → ◌≡◌ {A = (ℕ × ℕ) × (ℕ × ℕ)} (p, (γ, m)) (p, (γ, k))
fix {p} {γ} e = ap (λ (k : ℕ). (p, (γ, k))) e
