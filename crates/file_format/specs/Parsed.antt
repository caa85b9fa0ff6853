-- The file of a modulus, a header and records, read: what its bytes can hold comes back, whether there are records or
-- not.
use Rattle.std.specs.Prelude.{◌≡◌, ◌⊎◌, List, ℕ, ◌<◌, length}
use Rattle.algebra.specs.cells.Cell.{J}
use Rattle.algebra.specs.orbits.Orbit.{Mem}
use Rattle.numbers.specs.Value.{Value}
use Rattle.refusals.specs.Refusals.{first}
use Rattle.header.specs.Header.{Header}
use Rattle.file_format.specs.declared.FileRecord.{FileRecord}
use Rattle.file_format.specs.Format.{byte_at, version_at, shape_tests, modulus_in, header_in, records_in, body}
use Rattle.file_format.specs.Format.{file_of}

-- an index and a value, as a record
abbrev pub file_record : (m : ℕ) → J × Value m → FileRecord
file_record m c = record { h = c.0.0; k = c.0.1; l = c.0.2; a = c.1.0.val; b = c.1.1.val }

-- the numbers of a file are bytes, as those of every slice of bytes that is lent; past its end byte_at gives 0
pub record Bytes (file : List ℕ) : Type 0 where
  pub each : (i : ℕ) → byte_at file i < 256

-- three numbers of two bytes
pub record Short (j : J) : Type 0 where
  pub h : j.0 < 65536
  pub k : j.1 < 65536
  pub l : j.2 < 65536

-- a record whose index has three numbers of two bytes, and its value two of four, residues or not
pub record ShortRecord (c : FileRecord) : Type 0 where
  pub index : Short (c.h, c.k, c.l)
  pub a : c.a < 4294967296
  pub b : c.b < 4294967296

-- what the bytes of a file of a version can hold: version 1 has the first modulus alone
pub record Writable (version m : ℕ) (h : Header) (cs : List FileRecord) : Type 0 where
  pub versions : (version ≡ 2) ⊎ ((version ≡ 1) × (m ≡ 1))
  pub lengths : Short h.lengths
  pub records : (c : FileRecord) → Mem c cs → ShortRecord c
  pub short : length (body version m h cs) < 4294967296

-- The file of a modulus, a header and any records, none as well, is not refused for its shape, and has this modulus,
-- this header and these records; and every file of bytes that is not refused for its shape is the file of its version,
-- its modulus, its header and its records.
pub record ParsesBack : Type 0 where
  pub shape : (version m : ℕ) (h : Header) (cs : List FileRecord) →
      Writable version m h cs →
      0 ≡ first (shape_tests (file_of version m h cs))
  pub modulus : (version m : ℕ) (h : Header) (cs : List FileRecord) →
      Writable version m h cs →
      modulus_in (file_of version m h cs) ≡ m
  pub header : (version m : ℕ) (h : Header) (cs : List FileRecord) →
      Writable version m h cs →
      header_in (file_of version m h cs) ≡ h
  pub records : (version m : ℕ) (h : Header) (cs : List FileRecord) →
      Writable version m h cs →
      records_in (file_of version m h cs) ≡ cs
  pub again : (file : List ℕ) →
      Bytes file →
      0 ≡ first (shape_tests file) →
      file_of (byte_at file version_at) (modulus_in file) (header_in file) (records_in file) ≡ file
