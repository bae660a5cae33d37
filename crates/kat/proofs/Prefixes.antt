-- Prefixes put together: joining is associative and a last part can be taken off again; n times round from inside is n times round from
-- the start, cut at another place; and the body of a word by its first letter, and by what comes from a place on.
-- Assumes nothing.
use Prim.Native.Nat.{ℕ, zero, suc}
use mathlib.Core.Path.{◌≡◌, refl, sym, ◌∙◌, ap}
use Rattle.kat.specs.Word.{Word, end, at, first, last}
use Rattle.kat.specs.Ring.{Prefix, nothing, then, body, join, times, start}
use Rattle.kat.proofs.Turns.{join_nothing, start_join}
use Rattle.kat.specs.Turns.{NonEmpty}
use Rattle.kat.proofs.Words.{first_onto, word_of_body}

pub join_assoc : (u v w : Prefix) → join (join u v) w ≡ join u (join v w)
join_assoc u v nothing = refl
join_assoc u v (then w a r) = ap (λ l. then l a r) (join_assoc u v w)

-- the prefix without its last letter
abbrev shorter : Prefix → Prefix
shorter nothing = nothing
shorter (then l a r) = l

-- a last part can be taken off
pub join_cancel : (u v w : Prefix) → join u w ≡ join v w → u ≡ v
join_cancel u v nothing e = e
join_cancel u v (then w a r) e = join_cancel u v w (ap shorter e)

-- one time more at the front is one time more at the end
pub times_front : (l : Prefix) (n : ℕ) → join l (times n l) ≡ times (suc n) l
times_front l zero = sym (join_nothing l)
times_front l (suc n) = sym (join_assoc l (times n l) l) ∙ ap (λ x. join x l) (times_front l n)

-- n times from inside, up to where the start comes again
pub times_turned : (u v : Prefix) (n : ℕ) → join (times n (join v u)) v ≡ join v (times n (join u v))
times_turned u v zero = join_nothing v
times_turned u v (suc n) =
    ap (λ x. join x v) (sym (join_assoc (times n (join v u)) v u) ∙ ap (λ x. join x u) (times_turned u v n))
    ∙ join_assoc (join v (times n (join u v))) u v ∙ join_assoc v (times n (join u v)) (join u v)

-- the body after a prefix
pub body_join : (l : Prefix) (w : Word) → body l w ≡ join l (body nothing w)
body_join l (end a) = refl
body_join l (at a r w) =
    body_join (then l a r) w ∙ join_assoc l (then nothing a r) (body nothing w) ∙ ap (join l) (sym (body_join (then nothing a r) w))

body_longer : (l : Prefix) (w : Word) → NonEmpty l → NonEmpty (body l w)
body_longer l (end a) h = h
body_longer l (at a r w) h = body_longer (then l a r) w tt

-- a word with a letter: its body has one, and starts with its first atom, whatever comes after
pub body_of_letter : (a r : ℕ) (w : Word) → NonEmpty (body nothing (at a r w))
body_of_letter a r w = body_longer (then nothing a r) w tt

pub start_of_body : (b : ℕ) (w : Word) (u : Prefix) → NonEmpty (body nothing w) → start b (join (body nothing w) u) ≡ first w
start_of_body b w u h =
    start_join b (last w) (body nothing w) u h ∙ sym (first_onto (body nothing w) (end (last w))) ∙ ap first (word_of_body w)
