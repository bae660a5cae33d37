-- `read_names::Keyword::key` meets its contract. Each word's key is computed.
-- Assumes nothing.
use Rattle.claims.specs.Fields.{from_bytes}
use Rattle.claims.specs.Tokens.{reserved_words}
use Rattle.read_tokens.specs.Scan.{half_of, key_of}
use Rattle.read_names.specs.Keys.{word_key}
use Rattle.read_names.proofs.Keyword.key.Goals as goal

pub returns-in-Test : goal.returns-in-Test
unfolding word_key key_of half_of from_bytes reserved_words
returns-in-Test c = rw c.in-Test.is

pub returns-in-Rel : goal.returns-in-Rel
unfolding word_key key_of half_of from_bytes reserved_words
returns-in-Rel c = rw c.in-Rel.is

pub returns-in-Let : goal.returns-in-Let
unfolding word_key key_of half_of from_bytes reserved_words
returns-in-Let c = rw c.in-Let.is

pub returns-in-Never : goal.returns-in-Never
unfolding word_key key_of half_of from_bytes reserved_words
returns-in-Never c = rw c.in-Never.is

pub returns-in-Within : goal.returns-in-Within
unfolding word_key key_of half_of from_bytes reserved_words
returns-in-Within c = rw c.in-Within.is

pub returns-in-Closed : goal.returns-in-Closed
unfolding word_key key_of half_of from_bytes reserved_words
returns-in-Closed c = rw c.in-Closed.is

pub returns-in-Assume : goal.returns-in-Assume
unfolding word_key key_of half_of from_bytes reserved_words
returns-in-Assume c = rw c.in-Assume.is

pub returns-in-Claim : goal.returns-in-Claim
unfolding word_key key_of half_of from_bytes reserved_words
returns-in-Claim c = rw c.in-Claim.is

pub returns-in-In : goal.returns-in-In
unfolding word_key key_of half_of from_bytes reserved_words
returns-in-In c = rw c.in-In.is

pub returns-in-Empty : goal.returns-in-Empty
unfolding word_key key_of half_of from_bytes reserved_words
returns-in-Empty c = rw c.in-Empty.is

pub returns-in-Include : goal.returns-in-Include
unfolding word_key key_of half_of from_bytes reserved_words
returns-in-Include c = rw c.in-Include.is

pub returns-in-Irreflexive : goal.returns-in-Irreflexive
unfolding word_key key_of half_of from_bytes reserved_words
returns-in-Irreflexive c = rw c.in-Irreflexive.is

pub returns-in-True : goal.returns-in-True
unfolding word_key key_of half_of from_bytes reserved_words
returns-in-True c = rw c.in-True.is

pub returns-in-False : goal.returns-in-False
unfolding word_key key_of half_of from_bytes reserved_words
returns-in-False c = rw c.in-False.is
