-- What the code's link says, as the requirements have it (01, "Words, bytes and bounds").
use Rattle.bvh2.specs.declared.Link.{Link as Told}
use Rattle.bvh2.specs.declared.Link.TheVariants as L
use Rattle.bvh2.specs.Words.{Link, children, position, malformed}

abbrev pub said : Told → Link
said (L.Children f) = children f
said (L.Position p) = position p
said L.Malformed = malformed
