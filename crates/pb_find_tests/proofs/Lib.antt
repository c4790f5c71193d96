-- for `validated_and_decoded`: two answers of which each is what the bytes are
mod AlikeLemmas
