-- What refuses a query and what accepts it, rule by rule and in plain words. (Document 01, "Refusals with an example each".) `reading_refusals`
-- and the theorems beside it in `proofs/` join these to `read`.
-- Assumes nothing.
use Rattle.std.specs.Prelude.{ℕ, ◌+◌, ◌≤◌, ◌<◌, ◌≡◌, ◌⊎◌, Bool, true, false, ◌||◌, List, [], ◌∷◌, ◌++◌, eqb, length}
use Rattle.std.proofs.Math.Option.{some, none}
use Rattle.kat.specs.Lists.{filter, every}
use Rattle.notation.specs.Bytes.{printable, RawLine, raw_lines}
use Rattle.notation.specs.Tree.{Line, Claim, claim_line}
use Rattle.notation.specs.Names.{Use, slip, first_slip, uses}
use Rattle.notation.specs.Refusals.{Cause, number, too_long, bad_byte, notation, too_deep, too_many, no_claim, after_claim, over_limit}
use Rattle.notation.specs.Reading.{crowded, claim_of}
use Rattle.notation.specs.Grammar.{got, wrong, deep}
use Rattle.notation.specs.Lines.{line}
use Rattle.notation.specs.Query.{Query, each, claims_of}
use Rattle.notation.specs.Counting.{within_limits}
use Rattle.notation.specs.Decisions.{ToDecide}

-- "printable ASCII (32 to 126), each line ended by byte 10": the bytes that a query may have
abbrev pub allowed : ℕ → Bool
allowed b = eqb b 10 || printable b

-- how many lines end in these bytes
abbrev pub endings : List ℕ → ℕ
endings bs = length (filter (λ b. eqb b 10) bs)

-- the first byte that is not allowed stands in line n, where the first byte of all stands in line m
abbrev pub FirstBad : ℕ → List ℕ → ℕ → Type 0
FirstBad m bs n =
    (before : List ℕ) × (b : ℕ) × (rest : List ℕ) × (bs ≡ before ++ (b ∷ rest))
    × (every allowed before ≡ true) × (allowed b ≡ false) × (n ≡ m + endings before)

-- "5 left to right": u is the leftmost use that slips, and c its cause
abbrev pub LeftmostSlip : List Line → List Use → Cause → Type 0
LeftmostSlip ls us c =
    (before : List Use) × (u : Use) × (rest : List Use) × (us ≡ before ++ (u ∷ rest))
    × (first_slip ls before ≡ none) × (slip ls u ≡ some c)

-- what is to be decided is within the limits
abbrev pub fits_limits : ToDecide → Bool
fits_limits d = within_limits d.over d.claim

-- "8": d is the first that is over the limits
abbrev pub FirstOver : List ToDecide → ToDecide → Type 0
FirstOver ds d =
    (before : List ToDecide) × (rest : List ToDecide) × (ds ≡ before ++ (d ∷ rest))
    × (every fits_limits before ≡ true) × (fits_limits d ≡ false)

-- what refuses a line after those of q, and what takes it
pub data LineRefused (q : Query) (l : RawLine) : Cause → Type 0 where
  after_the_claim : {c : Claim} → claim_of q ≡ some c → LineRefused q l after_claim
  not_in_notation : claim_of q ≡ none → line l ≡ wrong → LineRefused q l notation
  bracket_too_deep : claim_of q ≡ none → line l ≡ deep → LineRefused q l too_deep
  name_slips : {x : Line} {c : Cause} → claim_of q ≡ none → line l ≡ got x [] → first_slip q (uses x) ≡ some c → LineRefused q l c
  one_too_many : {x : Line} → claim_of q ≡ none → line l ≡ got x [] → first_slip q (uses x) ≡ none → crowded q x ≡ true
      → LineRefused q l too_many

pub record LineTaken (q : Query) (l : RawLine) (x : Line) : Type 0 where
  pub no_claim_yet : claim_of q ≡ none
  pub in_the_notation : line l ≡ got x []
  pub names_in_order : first_slip q (uses x) ≡ none
  pub room_for_it : crowded q x ≡ false

-- the lines are taken one after another: q' is q and what they say
abbrev pub Taken : Query → List RawLine → Query → Type 0
Taken q [] q' = q ≡ q'
Taken q (l ∷ ls) q' = (x : Line) × LineTaken q l x × Taken (q ++ (x ∷ [])) ls q'

-- the lines before one of them are taken, and that one, line p, is refused
abbrev pub RefusedAmong : Query → ℕ → List RawLine → Cause → ℕ → Type 0
RefusedAmong q n ls c p =
    (before : List RawLine) × (l : RawLine) × (rest : List RawLine) × (q' : Query) × (ls ≡ before ++ (l ∷ rest))
    × Taken q before q' × LineRefused q' l c × (p ≡ n + length before)

-- at most 4,096 bytes, all of them allowed: neither 1 nor 2
pub record CleanBytes (bs : List ℕ) : Type 0 where
  pub short : length bs ≤ 4096
  pub clean : every allowed bs ≡ true

-- all that refuses a query
pub data ReadRefused (bs : List ℕ) : Cause → ℕ → Type 0 where
  long : 4096 < length bs → ReadRefused bs too_long 0
  unclean : {n : ℕ} → length bs ≤ 4096 → FirstBad 1 bs n → ReadRefused bs bad_byte n
  at_a_line : {c : Cause} {p : ℕ} → CleanBytes bs → RefusedAmong [] 1 (raw_lines bs) c p → ReadRefused bs c p
  unclaimed : (q : Query) → CleanBytes bs → Taken [] (raw_lines bs) q → claim_of q ≡ none → ReadRefused bs no_claim 0
  large : (q : Query) (c : Claim) → CleanBytes bs → Taken [] (raw_lines bs) q → claim_of q ≡ some c → within_limits q c ≡ false
      → ReadRefused bs over_limit (length q)

-- all that is needed for a query to be accepted
pub record Accepted (bs : List ℕ) (q : Query) : Type 0 where
  pub in_order : CleanBytes bs
  pub every_line_taken : Taken [] (raw_lines bs) q
  pub claim : Claim
  pub claimed : claim_of q ≡ some claim
  pub within_the_limits : within_limits q claim ≡ true

-- the refusals that a line gives: 3 to 6, and 7 for a line after the claim
abbrev pub OfALine : Cause → Type 0
OfALine c = (c ≡ after_claim) ⊎ ((3 ≤ number c) × (number c ≤ 6))

-- one claim, the last line, and no other
abbrev pub EndsWith : Query → Claim → Type 0
EndsWith q c = (before : Query) × (q ≡ before ++ (claim_line c ∷ [])) × (each claims_of before ≡ [])
