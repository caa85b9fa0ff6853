-- What holds of every section that is written.
use Rattle.section.proofs.Readings.{section_points}
use Rattle.section.proofs.Outcomes.{section_laws, section_width}
use Rattle.section.proofs.Places.{section_places}
use Rattle.section.proofs.section_laws.Goals as goal

pub returns : goal.returns
returns c = (section_laws, section_width, section_points, section_places)
