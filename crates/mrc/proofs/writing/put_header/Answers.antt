use Rattle.std.proofs.Common.{◌≡◌, List, ℕ, sym, ap, arith, get_or}
use Rattle.output.specs.Output.{each, little_endian}
use Rattle.output.proofs.Writing.{each_none, each_ends, each_next, each_done, ends_as, wrote_as}
use Rattle.mrc.specs.declared.file_header.MrcHeader.{MrcHeader}
use Rattle.mrc.specs.Header.{header_words}
use Rattle.mrc.specs.Mrc.{header_bytes}
use Rattle.mrc.proofs.writing.put_header.Goals as goal

abbrev word : List ℕ → ℕ → List ℕ
word words k = little_endian 4 (get_or words k 0)

-- the bytes of the header's words
bytes : (h : MrcHeader) {words : List ℕ} → words ≡ header_words h → each 256 (word words) ≡ header_bytes h
unfolding header_bytes
bytes h e = ap (λ (w : List ℕ). each 256 (word w)) e

pub loop-k-init : goal.loop-k-init
loop-k-init c = each_none _ _ _

pub put_four-place-requires : goal.put_four-place-requires
put_four-place-requires c =
    ends_as (each_ends (word c.header_words-words.result) (ends_as c.requires.1 (sym (bytes _ c.header_words-words.ensures))) c.loop-k-test.true c.loop-k.invariant)
    (ap (little_endian 4) (sym c.word_at.ensures))

pub loop-k-preserved : goal.loop-k-preserved
loop-k-preserved c = each_next (word c.header_words-words.result) c.loop-k.invariant (wrote_as c.put_four-place.ensures (ap (little_endian 4) c.word_at.ensures))

pub returns : goal.returns
returns c = wrote_as (each_done (word c.header_words-words.result) (omega arith) c.loop-k-test.false c.loop-k.invariant) (bytes _ c.header_words-words.ensures)
