-- What mending a draft means. Assumes nothing.
use Rattle.format.specs.Mended.{Mended}
use Rattle.format.proofs.WithoutTables.{without_tables_or_maximum}
use Rattle.format.proofs.KeysDropped.{drops}
use Rattle.format.proofs.KeyAdded.{adds}

pub mended_drafts : Mended
mended_drafts = record { without_tables_or_maximum = without_tables_or_maximum; drops = drops; adds = adds }
