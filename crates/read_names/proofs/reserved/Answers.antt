-- `read_names::reserved` meets its contract. Some word that is no name has the key.
-- Assumes nothing.
use Rattle.std.proofs.Common.{◌≡◌, refl, ◌∙◌, rules}
use Rattle.std.proofs.lemmas.Iterator.{YieldsList-from_slice}
use Rattle.std.proofs.lemmas.Iterator.Search.{any_from_yields_List}
use Rattle.std.specs.List.{list_any}
use Rattle.claims.specs.Tokens.{reserved_words}
use Rattle.read_tokens.specs.declared.Key.{Key}
use Rattle.read_names.specs.Keys.{same_key, word_key, reserved_key}
use Rattle.read_names.specs.Keywords.{place_of, all_words}
use Rattle.read_names.proofs.reserved.Goals as goal

-- the places of all words are those of the document's list
some_word : (k : Key) → list_any (λ w. same_key k (word_key (place_of w))) all_words ≡ reserved_key k
unfolding word_key reserved_key reserved_words
some_word k = refl

pub returns : goal.returns
unfolding same_key
returns c =
    any_from_yields_List (λ w. same_key c.args.k (word_key (place_of w))) _ _ _ c.any.ensures.ran
    (YieldsList-from_slice all_words (search rules)) (λ x b q k. search rules)
    ∙ some_word c.args.k
