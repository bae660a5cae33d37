-- What a judgement means in words: the line of the query that does not hold in the graph, as it is written. (Document 01, "Sheet and graph
-- bytes", last paragraph; the words are ours.)
-- Assumes nothing.
use Rattle.std.specs.Prelude.{ℕ, suc, Bool, true, false, cond, List, [], ◌∷◌, ◌++◌, eqb, ltb, Ok, Err}
use Rattle.claims.specs.Bytes.{text}
use Rattle.claims.specs.Printed.{decimal}
use Rattle.texts.specs.Lines.{line_at}
use Rattle.refusal_texts.specs.Sentences.{words_of}
use Rattle.graph.specs.declared.Judged.TheVariants.{Holds, BreaksAt, BreaksFrom}
use Rattle.graph.specs.Answers.{Answer}

-- how many lines of a text are ended by byte 10: the number of a query's last line, its claim ("The query")
unfoldable pub line_ends : List ℕ → ℕ
line_ends [] = 0
line_ends (b ∷ bs) = cond (eqb b 10) (suc (line_ends bs)) (line_ends bs)

-- what is said of a line
abbrev pub not_held : List ℕ
not_held = text " of the query does not hold in this graph: "

-- a line that does not hold, as it is written
abbrev pub line_words : ℕ → List ℕ → List ℕ
line_words l query = text "fence: line " ++ (decimal l ++ (not_held ++ (line_at l query ++ (10 ∷ []))))

-- the first line that does not hold; where there is none, the claim, where that does not hold
unfoldable pub broken_words : ℕ → Bool → List ℕ → List ℕ
broken_words l holds query = cond (ltb 0 l) (line_words l query) (cond holds [] (line_words (line_ends query) query))

-- what a judgement or a refusal means
abbrev pub judged_words : Answer → List ℕ → List ℕ
judged_words (Ok (Holds l)) query = broken_words l true query
judged_words (Ok (BreaksAt l e)) query = broken_words l false query
judged_words (Ok (BreaksFrom l x y)) query = broken_words l false query
judged_words (Err e) query = words_of e.why e.place query
