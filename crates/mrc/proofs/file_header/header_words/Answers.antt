-- Ten floats by their bits.
use Rattle.mrc.specs.Header.{header_words}
use Rattle.mrc.proofs.file_header.header_words.Goals as goal

pub returns : goal.returns
unfolding header_words
returns c = cc
