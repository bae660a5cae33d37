-- Ways through the tables of an expression that k occurrences stand before, from wherever one may begin in it: from its start, or from
-- behind one of its occurrences. The idea: what may be read first, where it may end and what is read from there are one record
-- (`Beginning`), and the laws on residuals make one of the start and one of each occurrence. From a beginning a word is read to its end
-- exactly when some way reads its prefix and ends on an occurrence that may be last at its last atom (`ended_by_way`). So where a way
-- leaves the left part of a sequence, what lies behind was read to its end; ranges tell which part an occurrence belongs to.
-- Assumes nothing.
use Prim.Native.Nat.{ℕ, ◌+◌}
use mathlib.Core.Path.{◌≡◌, refl, sym, ap, subst}
use mathlib.Core.Logic.{◌⊎◌, ⊎_elim, ◌↔◌}
use mathlib.Core.Logic.◌⊎◌.{inl, inr}
use mathlib.Core.Bool.{Bool, true, false, ◌&&◌, ◌||◌, true≢false}
use Rattle.kat.specs.Expr.{Expr, alt, seq}
use Rattle.kat.specs.Graph.{Rel}
use Rattle.kat.specs.Word.{Word, end, at, first}
use Rattle.kat.specs.Language.{places}
use Rattle.kat.specs.Ring.{Prefix, nothing, then, onto, join, start}
use Rattle.kat.specs.Tables.{occurrences, reads, null, firsts, lasts, follows}
use Rattle.kat.specs.Rest.{Rest}
use Rattle.kat.specs.Turns.{NonEmpty}
use Rattle.kat.proofs.Bools.{or_cases, or_left, or_right, and_left, and_right, and_both}
use Rattle.kat.proofs.Shapes.{longer_is_no_end}
use Rattle.kat.proofs.Ranges.{Among, apart, reads_range, firsts_range, lasts_range, follows_range, follows_before}
use Rattle.kat.proofs.Residuals.{letter, Cut, cut_rel, cut_rest}
use Rattle.kat.proofs.Letters.{null_rel, letter_rel, last_rest, letter_rest, reads_left, reads_right}
use Rattle.kat.proofs.Growing.{start_own}

-- a way reads the prefix, first by an occurrence that N allows, and ends on an occurrence
pub data Ways (N : ℕ → ℕ → Bool) (E : Expr) (k : ℕ) : Prefix → ℕ → Type 0 where
  opens : (a r q : ℕ) → N q a ≡ true → reads E k q r ≡ true → Ways N E k (then nothing a r) q
  grows : (l : Prefix) (o a r q : ℕ) → Ways N E k l o → follows E k o q a ≡ true → reads E k q r ≡ true → Ways N E k (then l a r) q

pub ways_range : {N : ℕ → ℕ → Bool} (E : Expr) (k : ℕ) {l : Prefix} {q : ℕ} → Ways N E k l q → Among k (occurrences E) q
ways_range E k (opens a r q n m) = reads_range E k q r m
ways_range E k (grows l o a r q w n m) = reads_range E k q r m

pub ways_longer : {N : ℕ → ℕ → Bool} (E : Expr) (k : ℕ) {l : Prefix} {q : ℕ} → Ways N E k l q → NonEmpty l
ways_longer E k (opens a r q n m) = tt
ways_longer E k (grows l o a r q w n m) = tt

pub ways_map : {N M : ℕ → ℕ → Bool} (E : Expr) (k : ℕ) (F : Expr) (j : ℕ)
    → ((q a : ℕ) → N q a ≡ true → M q a ≡ true)
    → ((p q a : ℕ) → follows E k p q a ≡ true → follows F j p q a ≡ true)
    → ((q r : ℕ) → reads E k q r ≡ true → reads F j q r ≡ true)
    → {l : Prefix} {q : ℕ} → Ways N E k l q → Ways M F j l q
ways_map E k F j f g h (opens a r q n m) = opens a r q (f q a n) (h q r m)
ways_map E k F j f g h (grows l o a r q w n m) = grows l o a r q (ways_map E k F j f g h w) (g o q a n) (h q r m)

-- where nothing may be read first there is no way
pub no_ways : (E : Expr) (k : ℕ) {l : Prefix} {q : ℕ} → Ways (λ q a. false) E k l q → ⊥
no_ways E k (opens a r q n m) = true≢false (sym n)
no_ways E k (grows l o a r q w n m) = no_ways E k w

-- a place in E where reading may begin: what may be read first there, at which atoms E may end there, and what is read from there to the
-- end of E
pub record Beginning (E : Expr) (k : ℕ) : Type 1 where
  pub allows : ℕ → ℕ → Bool
  pub closes : ℕ → Bool
  pub Onward : Word → Word → Type 0
  pub within : (q a : ℕ) → allows q a ≡ true → Among k (occurrences E) q
  pub cut : (u v : Word) → Onward u v → Cut (closes (first u)) allows E k u v
  pub stays : (u : Word) → closes (first u) ≡ true → Onward u u
  pub goes : (q a r : ℕ) (u v : Word) → allows q a ≡ true → reads E k q r ≡ true → Rest E k q u v → Onward (at a r u) v

-- the start of E
abbrev pub at_start : (E : Expr) (k : ℕ) → Beginning E k
at_start E k =
    record {
      allows = firsts E k;
      closes = null E;
      Onward = Rel places E;
      within = firsts_range E k;
      cut = cut_rel E k;
      stays = null_rel E;
      goes = letter_rel E k;
    }

-- behind occurrence p of E
abbrev pub behind : (E : Expr) (k p : ℕ) → Beginning E k
behind E k p =
    record {
      allows = follows E k p;
      closes = lasts E k p;
      Onward = Rest E k p;
      within = follows_range E k p;
      cut = cut_rest E k p;
      stays = last_rest E k p;
      goes = letter_rest E k p;
    }

-- no place of E
abbrev pub nowhere : (E : Expr) (k : ℕ) → Beginning E k
nowhere E k =
    record {
      allows = λ q a. false;
      closes = λ a. false;
      Onward = λ u v. ⊥;
      within = λ q a e. absurd (true≢false (sym e));
      cut = λ u v h. absurd h;
      stays = λ u e. true≢false (sym e);
      goes = λ q a r u v e m t. true≢false (sym e);
    }

module _ (E : Expr) (k : ℕ) (A : Beginning E k) where
  -- a way and then a residual
  ways_rest : {l : Prefix} {q : ℕ} (u v : Word) → Ways A.allows E k l q → Rest E k q u v → A.Onward (onto l u) v
  ways_rest u v (opens a r q n m) t = A.goes q a r u v n m t
  ways_rest u v (grows l o a r q w n m) t = ways_rest (at a r u) v w (letter_rest E k o q a r u v n m t)

  -- nothing has been read yet, or a way has read the prefix
  abbrev Begun : Prefix → Word → Word → Type 0
  Begun l u v = ((l ≡ nothing) × A.Onward u v) ⊎ ((o : ℕ) × Ways A.allows E k l o × Rest E k o u v)

  begun_first : (a r : ℕ) (u : Word) (b : ℕ) → Cut (A.closes a) A.allows E k (at a r u) (end b) → Begun (then nothing a r) u (end b)
  begun_first a r u b (inl (n, e)) = absurd (longer_is_no_end e)
  begun_first a r u b (inr (letter q n m t)) = inr (q, opens a r q n m, t)

  begun_next : (l : Prefix) (o a r : ℕ) (u : Word) (b : ℕ) → Ways A.allows E k l o
      → Cut (lasts E k o a) (follows E k o) E k (at a r u) (end b) → Begun (then l a r) u (end b)
  begun_next l o a r u b w (inl (n, e)) = absurd (longer_is_no_end e)
  begun_next l o a r u b w (inr (letter q n m t)) = inr (q, grows l o a r q w n m, t)

  begun_onward : (l : Prefix) (u : Word) (b : ℕ) → A.Onward (onto l u) (end b) → Begun l u (end b)
  begun_onward nothing u b h = inl (refl, h)
  begun_onward (then l a r) u b h =
      ⊎_elim
      (λ (e, g). subst (λ x. Begun (then x a r) u (end b)) (sym e) (begun_first a r u b (A.cut (at a r u) (end b) g)))
      (λ (o, w, t). begun_next l o a r u b w (cut_rest E k o (at a r u) (end b) t))
      (begun_onward l (at a r u) b h)

  cut_end : (c : Bool) (N : ℕ → ℕ → Bool) (a : ℕ) → Cut c N E k (end a) (end a) → c ≡ true
  cut_end c N a (inl (n, e)) = n
  cut_end c N a (inr x') = elim x' [ ]

  -- at atom a, E may have ended: nothing was read, or a way has read the prefix up to an occurrence that may be last
  abbrev pub EndedAt : Prefix → ℕ → Type 0
  EndedAt l a = ((l ≡ nothing) × (A.closes a ≡ true)) ⊎ ((o : ℕ) × Ways A.allows E k l o × (lasts E k o a ≡ true))

  -- the prefix and an atom are read to the end of E exactly when a way reads the prefix and may end there
  pub ended_by_way : (l : Prefix) (a : ℕ) → A.Onward (onto l (end a)) (end a) ↔ EndedAt l a
  ended_by_way l a = (
    (λ h.
        ⊎_elim
        (λ (e, g). inl (e, cut_end (A.closes a) A.allows a (A.cut (end a) (end a) g)))
        (λ (o, w, t). inr (o, w, cut_end (lasts E k o a) (follows E k o) a (cut_rest E k o (end a) (end a) t)))
        (begun_onward l (end a) a h)),
    (λ h.
        ⊎_elim
        (λ (e, n). subst (λ x. A.Onward (onto x (end a)) (end a)) (sym e) (A.stays (end a) n))
        (λ (o, w, n). ways_rest (end a) (end a) w (last_rest E k o (end a) n))
        h),
  )

-- the two parts of a union and of a sequence
module _ (e f : Expr) (k : ℕ) where
  -- an occurrence of one part is not allowed by the other part's tables
  not_left : {N : ℕ → ℕ → Bool} {l : Prefix} {o : ℕ} → Among k (occurrences e) o → Ways N f (k + occurrences e) l o → ⊥
  not_left {o = o} h w = apart k (occurrences e) (occurrences f) o h (ways_range f (k + occurrences e) w)

  not_right : {N : ℕ → ℕ → Bool} {l : Prefix} {o : ℕ} → Among (k + occurrences e) (occurrences f) o → Ways N e k l o → ⊥
  not_right {o = o} h w = apart k (occurrences e) (occurrences f) o (ways_range e k w) h

  -- a letter that the left part reads, and one that the right part reads
  left_opens : (A : Beginning e k) (a r q : ℕ) → A.allows q a ≡ true → (reads e k q r || reads f (k + occurrences e) q r) ≡ true
      → Ways A.allows e k (then nothing a r) q
  left_opens A a r q n m = opens a r q n (reads_left e f k q r (A.within q a n) m)

  right_opens : (B : Beginning f (k + occurrences e)) (a r q : ℕ) → B.allows q a ≡ true
      → (reads e k q r || reads f (k + occurrences e) q r) ≡ true → Ways B.allows f (k + occurrences e) (then nothing a r) q
  right_opens B a r q n m = opens a r q n (reads_right e f k q r (B.within q a n) m)

  left_grows : {N : ℕ → ℕ → Bool} (l : Prefix) (o a r q : ℕ) → Ways N e k l o → follows e k o q a ≡ true
      → (reads e k q r || reads f (k + occurrences e) q r) ≡ true → Ways N e k (then l a r) q
  left_grows l o a r q w n m = grows l o a r q w n (reads_left e f k q r (follows_range e k o q a n) m)

  right_grows : {N : ℕ → ℕ → Bool} (l : Prefix) (o a r q : ℕ) → Ways N f (k + occurrences e) l o → follows f (k + occurrences e) o q a ≡ true
      → (reads e k q r || reads f (k + occurrences e) q r) ≡ true → Ways N f (k + occurrences e) (then l a r) q
  right_grows l o a r q w n m = grows l o a r q w n (reads_right e f k q r (follows_range f (k + occurrences e) o q a n) m)

  -- a way through a part is one through the whole
  pub alt_left : {M N : ℕ → ℕ → Bool} → ((q a : ℕ) → M q a ≡ true → N q a ≡ true)
      → {l : Prefix} {q : ℕ} → Ways M e k l q → Ways N (alt e f) k l q
  alt_left h =
      ways_map e k (alt e f) k h (λ p q a n. or_left (follows f (k + occurrences e) p q a) n)
      (λ q r m. or_left (reads f (k + occurrences e) q r) m)

  pub alt_right : {M N : ℕ → ℕ → Bool} → ((q a : ℕ) → M q a ≡ true → N q a ≡ true)
      → {l : Prefix} {q : ℕ} → Ways M f (k + occurrences e) l q → Ways N (alt e f) k l q
  alt_right h =
      ways_map f (k + occurrences e) (alt e f) k h (λ p q a n. or_right (follows e k p q a) n)
      (λ q r m. or_right (reads e k q r) m)

  pub seq_left : {M N : ℕ → ℕ → Bool} → ((q a : ℕ) → M q a ≡ true → N q a ≡ true)
      → {l : Prefix} {q : ℕ} → Ways M e k l q → Ways N (seq e f) k l q
  seq_left h =
      ways_map e k (seq e f) k h
      (λ p q a n. or_left (lasts e k p a && firsts f (k + occurrences e) q a) (or_left (follows f (k + occurrences e) p q a) n))
      (λ q r m. or_left (reads f (k + occurrences e) q r) m)

  pub seq_right : {M N : ℕ → ℕ → Bool} → ((q a : ℕ) → M q a ≡ true → N q a ≡ true)
      → {l : Prefix} {q : ℕ} → Ways M f (k + occurrences e) l q → Ways N (seq e f) k l q
  seq_right h =
      ways_map f (k + occurrences e) (seq e f) k h
      (λ p q a n. or_left (lasts e k p a && firsts f (k + occurrences e) q a) (or_right (follows e k p q a) n))
      (λ q r m. or_right (reads e k q r) m)

  module _ (A : Beginning e k) (B : Beginning f (k + occurrences e)) (N : ℕ → ℕ → Bool) where
    -- a way through a union is one through a side
    pub alt_split : ((q a : ℕ) → N q a ≡ true → (A.allows q a ≡ true) ⊎ (B.allows q a ≡ true))
        → {l : Prefix} {q : ℕ} → Ways N (alt e f) k l q → Ways A.allows e k l q ⊎ Ways B.allows f (k + occurrences e) l q
    alt_split parts (opens a r q n m) = ⊎_elim (λ x. inl (left_opens A a r q x m)) (λ x. inr (right_opens B a r q x m)) (parts q a n)
    alt_split parts (grows l o a r q w n m) =
        ⊎_elim
        (λ x.
        ⊎_elim (λ t. inl (left_grows l o a r q t x m)) (λ t. absurd (not_left (follows_before e k o q a x) t)) (alt_split parts w))
        (λ x.
        ⊎_elim (λ t. absurd (not_right (follows_before f (k + occurrences e) o q a x) t)) (λ t. inr (right_grows l o a r q t x m))
        (alt_split parts w))
        (or_cases (follows e k o q a) (follows f (k + occurrences e) o q a) n)

    -- a way that has read its left part to the end and is in its right part
    abbrev pub Over : Prefix → ℕ → Type 0
    Over l q =
        (u : Prefix) × (v : Prefix) × (l ≡ join u v) × A.Onward (onto u (end (start 0 v))) (end (start 0 v))
        × Ways (firsts f (k + occurrences e)) f (k + occurrences e) v q

    -- a way through a sequence is in its left part, or over it, or was in its right part from the beginning
    abbrev pub InSeq : Prefix → ℕ → Type 0
    InSeq l q = Ways A.allows e k l q ⊎ (Over l q ⊎ Ways B.allows f (k + occurrences e) l q)

    seq_within : (l : Prefix) (o a r q : ℕ) → follows e k o q a ≡ true → (reads e k q r || reads f (k + occurrences e) q r) ≡ true
        → InSeq l o → InSeq (then l a r) q
    seq_within l o a r q n m (inl w) = inl (left_grows l o a r q w n m)
    seq_within l o a r q n m (inr (inl (u, v, e', h, w))) = absurd (not_left (follows_before e k o q a n) w)
    seq_within l o a r q n m (inr (inr w)) = absurd (not_left (follows_before e k o q a n) w)

    seq_onward : (l : Prefix) (o a r q : ℕ) → follows f (k + occurrences e) o q a ≡ true
        → (reads e k q r || reads f (k + occurrences e) q r) ≡ true → InSeq l o → InSeq (then l a r) q
    seq_onward l o a r q n m (inl w) = absurd (not_right (follows_before f (k + occurrences e) o q a n) w)
    seq_onward l o a r q n m (inr (inl (u, v, e', h, w))) =
        inr (inl (
          u,
          then v a r,
          ap (λ x. then x a r) e',
          subst (λ x. A.Onward (onto u (end x)) (end x)) (start_own 0 a v (ways_longer f (k + occurrences e) w)) h,
          right_grows v o a r q w n m,
        ))
    seq_onward l o a r q n m (inr (inr w)) = inr (inr (right_grows l o a r q w n m))

    seq_over : (l : Prefix) (o a r q : ℕ) → lasts e k o a ≡ true → firsts f (k + occurrences e) q a ≡ true
        → (reads e k q r || reads f (k + occurrences e) q r) ≡ true → InSeq l o → InSeq (then l a r) q
    seq_over l o a r q n n' m (inl w) =
        inr (inl (
          l,
          then nothing a r,
          refl,
          (ended_by_way e k A l a).1 (inr (o, w, n)),
          right_opens (at_start f (k + occurrences e)) a r q n' m,
        ))
    seq_over l o a r q n n' m (inr (inl (u, v, e', h, w))) = absurd (not_left (lasts_range e k o a n) w)
    seq_over l o a r q n n' m (inr (inr w)) = absurd (not_left (lasts_range e k o a n) w)

    pub seq_split : ((q a : ℕ) → N q a ≡ true
        → (A.allows q a ≡ true) ⊎ (((A.closes a && firsts f (k + occurrences e) q a) ≡ true) ⊎ (B.allows q a ≡ true)))
        → {l : Prefix} {q : ℕ} → Ways N (seq e f) k l q → InSeq l q
    seq_split parts (opens a r q n m) =
        ⊎_elim
        (λ x. inl (left_opens A a r q x m))
        (λ x.
        ⊎_elim
        (λ y. inr (inl (
          nothing,
          then nothing a r,
          refl,
          A.stays (end a) (and_left (A.closes a) (firsts f (k + occurrences e) q a) y),
          right_opens (at_start f (k + occurrences e)) a r q (and_right (A.closes a) (firsts f (k + occurrences e) q a) y) m,
        )))
        (λ y. inr (inr (right_opens B a r q y m)))
        x)
        (parts q a n)
    seq_split parts (grows l o a r q w n m) =
        ⊎_elim
        (λ x.
        ⊎_elim (λ y. seq_within l o a r q y m (seq_split parts w)) (λ y. seq_onward l o a r q y m (seq_split parts w))
        (or_cases (follows e k o q a) (follows f (k + occurrences e) o q a) x))
        (λ x.
        seq_over l o a r q (and_left (lasts e k o a) (firsts f (k + occurrences e) q a) x)
        (and_right (lasts e k o a) (firsts f (k + occurrences e) q a) x) m (seq_split parts w))
        (or_cases (follows e k o q a || follows f (k + occurrences e) o q a) (lasts e k o a && firsts f (k + occurrences e) q a) n)

    module _ (first : (q a : ℕ) → A.allows q a ≡ true → N q a ≡ true)
        (over : (q a : ℕ) → (A.closes a && firsts f (k + occurrences e) q a) ≡ true → N q a ≡ true) where
      seq_begins : (u : Prefix) (a r q : ℕ) → firsts f (k + occurrences e) q a ≡ true → reads f (k + occurrences e) q r ≡ true
          → EndedAt e k A u a → Ways N (seq e f) k (then u a r) q
      seq_begins u a r q n m (inl (x, y)) =
          subst (λ z. Ways N (seq e f) k (then z a r) q) (sym x)
          (opens a r q (over q a (and_both y n)) (or_right (reads e k q r) m))
      seq_begins u a r q n m (inr (o, w, y)) =
          grows u o a r q (seq_left first w) (or_right (follows e k o q a || follows f (k + occurrences e) o q a) (and_both y n))
          (or_right (reads e k q r) m)

      pub seq_join : (u : Prefix) {v : Prefix} {q : ℕ} → A.Onward (onto u (end (start 0 v))) (end (start 0 v))
          → Ways (firsts f (k + occurrences e)) f (k + occurrences e) v q → Ways N (seq e f) k (join u v) q
      seq_join u h (opens a r q n m) = seq_begins u a r q n m ((ended_by_way e k A u a).0 h)
      seq_join u h (grows v o a r q w n m) =
          grows (join u v) o a r q
          (seq_join u (subst (λ x. A.Onward (onto u (end x)) (end x)) (start_own a 0 v (ways_longer f (k + occurrences e) w)) h) w)
          (or_left (lasts e k o a && firsts f (k + occurrences e) q a) (or_right (follows e k o q a) n)) (or_right (reads e k q r) m)
