-- What a refusal means, in words. (Document 01, "Refusals with an example each", has the causes; the words are ours.)
-- Assumes nothing.
use Rattle.std.specs.Prelude.{ℕ, Bool, cond, List, [], ◌∷◌, ◌++◌, map, eqb, ltb}
use Rattle.claims.specs.Bytes.{text}
use Rattle.claims.specs.Printed.{decimal}
use Rattle.refusals.specs.declared.Reason.{Reason}
use Rattle.refusal_texts.specs.CauseText.{cause_text, of_query}
use Rattle.texts.specs.Lines.{line_at}

-- the place of a refusal: a line of the query (true) or a field ("Refusals with an example each")
unfoldable pub place_text : Bool → ℕ → List ℕ
place_text line p =
    cond (eqb p 0) []
    (cond line (text "line " ++ (decimal p ++ text ": ")) (text "field " ++ (decimal p ++ text ": ")))

-- the sentence of a refusal ("Refusals with an example each")
unfoldable pub sentence_of : Reason → ℕ → List ℕ
sentence_of why p = text "fence: " ++ (place_text (of_query why) p ++ (cause_text why ++ (10 ∷ [])))

-- a byte as it can be shown: a question mark for one that is not printable ("The query")
unfoldable pub visible : ℕ → ℕ
visible b = cond (ltb b 32) 63 (cond (ltb 126 b) 63 b)

-- a line of the query as it is shown ("The query")
unfoldable pub shown_line : List ℕ → List ℕ
shown_line line = text "    " ++ (map visible line ++ (10 ∷ []))

-- the line that a refusal is about, where it is about one ("Refusals with an example each")
unfoldable pub line_for : Bool → ℕ → List ℕ → List ℕ
line_for line p query = cond (eqb p 0) [] (cond line (shown_line (line_at p query)) [])

-- the sentence of a refusal, and the line of the query that it is about ("Refusals with an example each")
unfoldable pub words_of : Reason → ℕ → List ℕ → List ℕ
words_of why p query = sentence_of why p ++ line_for (of_query why) p query
