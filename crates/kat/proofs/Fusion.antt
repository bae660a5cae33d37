-- The language of an expression, which is its relational meaning on the places of a word, is the textbook's language by fusion
-- products. The idea: E relates the place u to the place v exactly when u is a word of E fused with v (`cut` and `joined`); at the
-- end of the word, fusing changes nothing. Both directions go by the expression and, under `+`, by the pairs in a row.
-- Assumes nothing.
use Prim.Native.Nat.{ℕ}
use mathlib.Core.Path.{◌≡◌, refl, sym, ◌∙◌, ap, subst}
use mathlib.Core.Logic.{◌↔◌}
use mathlib.Core.Logic.◌⊎◌.{inl, inr}
use mathlib.Core.Bool.{Bool, true}
use Rattle.kat.specs.Expr.{Expr, step, test, alt, seq, plus}
use Rattle.kat.specs.Graph.{Rel, Plus, once, more}
use Rattle.kat.specs.Word.{Word, end, at, first, last}
use Rattle.kat.specs.Language.{places, Lang}
use Rattle.kat.specs.Fusion.{fuse, Power, single, join, Textbook}

last_fuse : (u v : Word) → last (fuse u v) ≡ last v
last_fuse (end a) v = refl
last_fuse (at a r u) v = last_fuse u v

first_fuse : (u v : Word) → last u ≡ first v → first (fuse u v) ≡ first u
first_fuse (end a) v h = sym h
first_fuse (at a r u) v h = refl

fuse_assoc : (u v w : Word) → fuse (fuse u v) w ≡ fuse u (fuse v w)
fuse_assoc (end a) v w = refl
fuse_assoc (at a r u) v w = ap (at a r) (fuse_assoc u v w)

fuse_end : (w : Word) → fuse w (end (last w)) ≡ w
fuse_end (end a) = refl
fuse_end (at a r w) = ap (at a r) (fuse_end w)

-- u is a word of L fused with v
abbrev Before : (Word → Type 0) → Word → Word → Type 0
Before L u v = (x : Word) × L x × (last x ≡ first v) × (u ≡ fuse x v)

cut_step : (s : ℕ → Bool) (u v : Word) → Rel places (step s) u v → Before (Textbook (step s)) u v
cut_step s (end a) v (r, hs, h) = absurd h
cut_step s (at a t u) v (r, hs, (e, f)) =
    (at a t (end (first v)), (a, t, first v, subst (λ q. s q ≡ true) (sym e) hs, refl), refl, ap (at a t) f)

cut_test : (s : ℕ → Bool) (u v : Word) → Rel places (test s) u v → Before (Textbook (test s)) u v
cut_test s u v (e, hs) = (end (first u), (first u, hs, refl), ap first e, e)

-- two words fused, each before what comes after it
fused_before : {L M : Word → Type 0} (u z v : Word) → Before L u z → Before M z v
    → (x : Word) × (y : Word) × L x × M y × (last x ≡ first y) × (last (fuse x y) ≡ first v) × (u ≡ fuse (fuse x y) v)
fused_before u z v (x, lx, ex, ux) (y, my, ey, zy) =
    (x, y, lx, my, ex ∙ ap first zy ∙ first_fuse y v ey, last_fuse x y ∙ ey, ux ∙ ap (fuse x) zy ∙ sym (fuse_assoc x y v))

cut_plus : {L : Word → Type 0} {R : Word → Word → Type 0} (go : (u v : Word) → R u v → Before L u v)
    → {u v : Word} → Plus R u v → Before (Power L) u v
cut_plus go (once {x = u} {y = v} h) = let (x, lx, ex, ux) = go u v h in (x, single lx, ex, ux)
cut_plus go (more {x = u} {y = z} {z = v} h p) =
    let (x, y, lx, my, exy, e, eq) = fused_before u z v (go u z h) (cut_plus go p) in
    (fuse x y, join lx my exy refl, e, eq)

pub cut : (E : Expr) (u v : Word) → Rel places E u v → Before (Textbook E) u v
cut (step s) u v h = cut_step s u v h
cut (test s) u v h = cut_test s u v h
cut (alt e f) u v (inl h) = let (x, lx, ex, ux) = cut e u v h in (x, inl lx, ex, ux)
cut (alt e f) u v (inr h) = let (x, lx, ex, ux) = cut f u v h in (x, inr lx, ex, ux)
cut (seq e f) u v (z, h, k) =
    let (x, y, lx, my, exy, e, eq) = fused_before u z v (cut e u z h) (cut f z v k) in
    (fuse x y, (x, y, lx, my, exy, refl), e, eq)
cut (plus e) u v h = cut_plus (cut e) h

joined_step : (s : ℕ → Bool) (x v : Word) → Textbook (step s) x → last x ≡ first v → Rel places (step s) (fuse x v) v
joined_step s x v (a, r, b, hs, e) h = subst (λ y. Rel places (step s) (fuse y v) v) (sym e) (r, hs, (refl, refl))

joined_test : (s : ℕ → Bool) (x v : Word) → Textbook (test s) x → last x ≡ first v → Rel places (test s) (fuse x v) v
joined_test s x v (a, hs, e) h =
    subst (λ y. Rel places (test s) (fuse y v) v) (sym e) (refl, subst (λ q. s q ≡ true) (sym (ap last e) ∙ h) hs)

joined_plus : {L : Word → Type 0} {R : Word → Word → Type 0}
    (go : (x v : Word) → L x → last x ≡ first v → R (fuse x v) v)
    (v : Word) {x : Word} → Power L x → last x ≡ first v → Plus R (fuse x v) v
joined_plus go v (single {w = x} l) h = once (go x v l h)
joined_plus {R = R} go v (join {u = x} {v = y} {w = w} l p e eq) h =
    let h' : last y ≡ first v = sym (last_fuse x y) ∙ sym (ap last eq) ∙ h in
    subst (λ z. Plus R z v) (sym (fuse_assoc x y v) ∙ ap (λ z. fuse z v) (sym eq))
    (more (go x (fuse y v) l (e ∙ sym (first_fuse y v h'))) (joined_plus go v p h'))

pub joined : (E : Expr) (x v : Word) → Textbook E x → last x ≡ first v → Rel places E (fuse x v) v
joined (step s) x v t h = joined_step s x v t h
joined (test s) x v t h = joined_test s x v t h
joined (alt e f) x v (inl t) h = inl (joined e x v t h)
joined (alt e f) x v (inr t) h = inr (joined f x v t h)
joined (seq e f) x v (y, z, t, s, eyz, eq) h =
    let h' : last z ≡ first v = sym (last_fuse y z) ∙ sym (ap last eq) ∙ h in
    subst (λ w. Rel places (seq e f) w v) (sym (fuse_assoc y z v) ∙ ap (λ w. fuse w v) (sym eq))
    (fuse z v, joined e y (fuse z v) t (eyz ∙ sym (first_fuse z v h')), joined f z v s h')
joined (plus e) x v t h = joined_plus (joined e) v t h

-- the two languages are the same
pub language_is_textbook : (E : Expr) (w : Word) → Lang E w ↔ Textbook E w
language_is_textbook E w = (
  (λ h. let (x, t, e, eq) = cut E w (end (last w)) h in
      subst (Textbook E) (sym (fuse_end x) ∙ ap (λ a. fuse x (end a)) e ∙ sym eq) t),
  (λ t. subst (λ u. Rel places E u (end (last w))) (fuse_end w) (joined E w (end (last w)) t refl)),
)
