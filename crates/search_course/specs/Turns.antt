-- The search as turns: one candidate a turn, or one standing that may complete a word. (Document 01, "Standings".) The letters behind the empty
-- prefix come first; then, level by level, each standing of the level is looked at whether it completes a refuting word, and then the letters
-- behind each of them. Numbers of the phases: 0 begins, 1 completes, 2 grows, 3 proved, 4 refuted, 5 spent.
-- Assumes nothing.
use Rattle.std.specs.Prelude.{ℕ, suc, ◌+◌, ◌*◌, ◌-◌, ◌≤◌, ◌<◌, ◌≡◌, ◌⊎◌, Bool, false, true, cond, Option, Some, None, List, [], ◌∷◌, eqb, ltb, drop}
use Rattle.claims.specs.Standings.{Letter}
use Rattle.claims.specs.Search.{completed}
use Rattle.search_standings.specs.declared.Shape.{Shape}
use Rattle.search_standings.specs.Systems.{word_system}
use Rattle.search_records.specs.declared.Record.{Record}
use Rattle.search_grow.specs.Masks.{letters_in, letters_left, letter_weight}
use Rattle.search_grow.specs.Kept.{State, state, Inside, Ready, Seen, Keeps, words_at, NotedBehind, NotedFrom}
use Rattle.layout.specs.Layout.{RING-WORDS, MOST-STANDINGS}
use Rattle.search_course.specs.declared.Course.{Course}
use Rattle.search_course.specs.declared.Move.{Move}
use Rattle.search_course.specs.declared.Offer.{Offer}
use Rattle.search_course.specs.declared.Finding.{Finding}
use Rattle.search_course.specs.declared.Finding.TheVariants.{Proved, Refuted, Spent}
use Rattle.search_course.specs.Answers.{Running, Answered}

-- the answer of the last turn
unfoldable pub finding_of : Course → Finding
finding_of t = cond (eqb t.phase 3) (Proved t.count) (cond (eqb t.phase 4) (Refuted t.place t.last) Spent)

-- more than the number of any standing: so many standings are left behind standing i that are at most STANDINGS - i
abbrev pub STANDINGS : ℕ
STANDINGS = 4100

-- the weight of one standing whose letters are tried: more than that of all letters behind a place, 17 for each of 64 atoms and 16 more
abbrev pub STANDING-WEIGHT : ℕ
STANDING-WEIGHT = 2048

-- the weight of the phase that completes, above that of the letters behind all standings of a level, STANDING-WEIGHT * STANDINGS
abbrev pub COMPLETING-WEIGHT : ℕ
COMPLETING-WEIGHT = 16777216

-- the weight of one standing with which a level begins: more than that of all turns of a level
abbrev pub LEVEL-WEIGHT : ℕ
LEVEL-WEIGHT = 67108864

-- the weight of the letters behind the empty prefix, above that of all levels, LEVEL-WEIGHT * STANDINGS and one level
abbrev pub BEGINNING-WEIGHT : ℕ
BEGINNING-WEIGHT = 300000000000

-- a number that falls from turn to turn: by levels, then by standings, then by letters
unfoldable pub turn_weight : Course → ℕ
turn_weight t =
    cond (eqb t.phase 0) (BEGINNING-WEIGHT + letter_weight t.rest t.relation)
    (cond (eqb t.phase 1) (LEVEL-WEIGHT * (STANDINGS - t.lo) + (COMPLETING-WEIGHT + (STANDINGS - t.at)))
    (cond (eqb t.phase 2)
    (LEVEL-WEIGHT * (STANDINGS - t.lo) + (STANDING-WEIGHT * (STANDINGS - t.at) + letter_weight t.rest t.relation)) 0))

-- the most that it is where a level begins at standing lo
unfoldable pub level_weight : ℕ → ℕ
level_weight lo = LEVEL-WEIGHT * (STANDINGS - lo) + (COMPLETING-WEIGHT + STANDINGS)

-- on from letter to letter behind a place: the letters that are left, and how many standings were counted
abbrev pub advanced : Course → ℕ → ℕ → ℕ → Course
advanced t rest relation count =
    record {
      phase = t.phase;
      lo = t.lo;
      hi = t.hi;
      at = t.at;
      place = t.place;
      rest = rest;
      relation = relation;
      count = count;
      last = t.last;
    }

-- a step that offers nothing
abbrev pub quietly : Course → Move
quietly t = record { course = t; offer = None }

-- a step that offers a candidate, which is looked for among so many records
abbrev pub offers : Course → ℕ → ℕ → ℕ → ℕ → Move
offers t seek p s letter = record { course = t; offer = Some (record { seek = seek; p = p; s = s; letter = letter }) }

-- letters are tried in the phases 0 and 2
abbrev pub Tries : Course → Type 0
Tries t = (t.phase ≡ 0) ⊎ (t.phase ≡ 2)

-- the numbers of a turn that tries a letter are small, and there is room for the words of a ring claim
pub record Tryable (ring : Bool) (relations cap words : ℕ) (t : Course) : Type 0 where
  pub relations_few : relations ≤ 16
  pub relation : t.relation ≤ relations
  pub allowance : cap ≤ MOST-STANDINGS
  pub room : ring ≡ true → RING-WORDS * cap ≤ words
  pub counted : t.count ≤ cap + 1
  pub place : t.place ≤ cap
  pub at : t.at ≤ 4097
  pub hi : t.hi ≤ 4097

-- the numbers of a turn are small, and there is room for the words of a ring claim
pub record Small (ring : Bool) (relations cap words : ℕ) (t : Course) : Type 0 where
  pub relations_few : relations ≤ 16
  pub allowance : cap ≤ MOST-STANDINGS
  pub room : ring ≡ true → RING-WORDS * cap ≤ words
  pub counted : t.count ≤ cap + 1
  pub begins : t.phase ≡ 0 → (t.place ≡ 0) × (t.at ≡ 0) × (t.hi ≡ 0) × (t.relation ≤ relations)
  pub completes : t.phase ≡ 1 → (t.place ≡ t.at + 1) × (t.at < t.hi) × (t.hi ≤ cap) × (t.lo ≤ t.at)
  pub grows : t.phase ≡ 2 → (t.place ≡ t.at + 1) × (t.at < t.hi) × (t.hi ≤ cap) × (t.relation ≤ relations)

-- a candidate that is offered is decided by where it was found: kept already, new and to be put, or new past the allowance
abbrev pub puts : ℕ → Option ℕ → Course → Bool
puts cap (Some i) t = false
puts cap None t = ltb t.count cap

-- and counted where it is new
abbrev pub settled : Option ℕ → Course → Course
settled (Some i) t = t
settled None t = advanced t t.rest t.relation (t.count + 1)

-- the record of the candidate
abbrev pub record_of : Course → Offer → Record
record_of t o = record { p = o.p; s = o.s; parent = t.place; letter = o.letter }

-- the masks of the letters that are tried: one array for level 1, another for the later levels
unfoldable pub masks_now : List ℕ → List ℕ → Course → List ℕ
masks_now first later t = cond (eqb t.phase 0) first later

module _ (k : Shape) (left right first later : List ℕ) (cap : ℕ) where
  -- the letters of level 1, and of the later levels
  abbrev pub first_ones : List Letter
  first_ones = letters_in first k.live k.relations

  abbrev pub later_ones : List Letter
  later_ones = letters_in later k.live k.relations

  -- a search that runs on from here, with the entries from lo on as the last level
  abbrev pub RunsOn : State → ℕ → Type 0
  RunsOn s lo = Running k left right first_ones later_ones (suc (suc cap)) cap s lo

  -- the letters behind the empty prefix: once those that are left are noted, the search runs on
  pub record Beginning (t : Course) (s : State) : Type 0 where
    pub place : t.place ≡ 0
    pub at : t.at ≡ 0
    pub hi : t.hi ≡ 0
    pub relation : t.relation ≤ k.relations
    pub on :
        (u : State) → NotedBehind k left right cap s u 0 (letters_left first k.relations t.rest t.relation) → RunsOn u 0

  -- the standings of a level that ends here: those before the one looked at complete nothing
  pub record Completing (t : Course) (s : State) : Type 0 where
    pub place : t.place ≡ t.at + 1
    pub low : t.lo ≤ t.at
    pub inside : t.at < t.hi
    pub ends : t.hi ≡ s.count
    pub within : s.count ≤ cap
    pub running : RunsOn s t.lo
    pub passed :
        (seen : Seen k left right) → Keeps k left right s seen
        → completed (word_system k left right) (drop t.at seen) ≡ completed (word_system k left right) (drop t.lo seen)

  -- the letters behind the standings of a level: once those that are left are noted, the search runs on
  pub record Growing (t : Course) (s : State) : Type 0 where
    pub place : t.place ≡ t.at + 1
    pub low : t.lo ≤ t.at
    pub inside : t.at < t.hi
    pub within : t.hi ≤ cap
    pub below : t.hi ≤ s.count
    pub relation : t.relation ≤ k.relations
    pub on :
        (u : State) → NotedBehind k left right cap s u t.place (letters_left later k.relations t.rest t.relation)
        → (v : State) → NotedFrom k left right cap u v (t.place + 1) (t.hi + 1) later_ones → RunsOn v t.hi

  -- what holds before each turn, of the turn and the two memories
  pub record At (t : Course) (r : List (List ℕ)) (w : List ℕ) : Type 0 where
    pub ready : Ready k.ring cap (state r w t.count)
    pub begins : t.phase ≡ 0 → Beginning t (state r w t.count)
    pub completes : t.phase ≡ 1 → Completing t (state r w t.count)
    pub grows : t.phase ≡ 2 → Growing t (state r w t.count)
    pub answered : 3 ≤ t.phase → Answered k left right first_ones later_ones (suc (suc cap)) cap r w (finding_of t)

  -- the step, behind which the search stands at u, offers a candidate of a path claim, which is to be looked up
  pub record Offers (t u : Course) (o : Offer) (r : List (List ℕ)) (w : List ℕ) (l : Letter) : Type 0 where
    pub path : k.ring ≡ false
    pub tries : Tries t
    pub same : u ≡ advanced t u.rest u.relation t.count
    pub seek : o.seek ≡ t.count
    pub within : t.count ≤ cap
    pub possible : o.p ≡ 0 → ⊥
    pub relation_small : l.relation < 16
    pub letter : o.letter ≡ 16 * l.atom + l.relation
    pub words : o.p ∷ o.s ∷ [] ≡ words_at k left right r w t.place l
    pub relation : u.relation ≤ k.relations
    pub rest :
        letters_left (masks_now first later t) k.relations t.rest t.relation
        ≡ l ∷ letters_left (masks_now first later t) k.relations u.rest u.relation

  -- a step that offers nothing changes nothing past the needed memory and keeps what holds before each turn; one that offers a candidate changes nothing
  abbrev pub Leads : Course → Course → Option Offer → List (List ℕ) → List ℕ → List ℕ → Type 0
  Leads t u None r w w' = Inside k.ring cap (state r w t.count) (state r w' u.count) × At u r w'
  Leads t u (Some o) r w w' = (w' ≡ w) × ((l : Letter) × Offers t u o r w l)

  abbrev pub Stepped : Course → Move → List (List ℕ) → List ℕ → List ℕ → Type 0
  Stepped t m r w w' = Leads t m.course m.offer r w w'
