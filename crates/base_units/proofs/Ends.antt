-- The code's limits are the definitions'. (Those of frames and bases are in the contracts of `frames_ok` and `base_ok`.)
use Rattle.base_rules.specs.Basics.{◌≡◌}
use Rattle.base_rules.proofs.Facts.{refl}
use Rattle.base_units.specs.declared.limits.TheConstants.{RECORDS, TABLES, KEYS, EPOCHS}
use Rattle.base_units.specs.Limits.{records_least, records_most, tables_least, tables_most, key_least, key_most, epoch_least, epoch_most}

pub records_ends : RECORDS ≡ record { least = records_least; most = records_most }
records_ends = refl

pub tables_ends : TABLES ≡ record { least = tables_least; most = tables_most }
tables_ends = refl

pub key_ends : KEYS ≡ record { least = key_least; most = key_most }
key_ends = refl

pub epoch_ends : EPOCHS ≡ record { least = epoch_least; most = epoch_most }
epoch_ends = refl
