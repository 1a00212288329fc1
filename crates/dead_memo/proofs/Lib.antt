-- Lemmas on keys and on the order of use.
mod UseLemmas
mod KeyLemmas
mod MemoLemmas
