-- A point of a cell is read off the cell's combined map.
use Rattle.cell.specs.Volume.{group_of}
use Rattle.header.specs.Header.{half_lengths}
use Rattle.combined.proofs.PackedMaps.{packed_point}
use Rattle.section.specs.SectionLaws.{SectionPoints}

pub section_points : SectionPoints
section_points group n M obeys x y z h = packed_point (group_of group) (half_lengths n) M obeys (x, y, z) h
