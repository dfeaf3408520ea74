-- Document 01, "What is written down": the codes.
use Rattle.base_rules.specs.Basics.{ℕ}

-- "Frame: type NDA 0 (free), TDR 1, TDCX 2, EPT 3, REG 4"
abbrev pub NDA : ℕ
NDA = 0

abbrev pub TDR : ℕ
TDR = 1

abbrev pub TDCX : ℕ
TDCX = 2

abbrev pub EPT : ℕ
EPT = 3

abbrev pub REG : ℕ
REG = 4

-- "lifecycle (HKID assigned, keys configured, blocked, teardown)"; request 5: "blocked and written back", behind the others, which keep their codes
abbrev pub ASSIGNED : ℕ
ASSIGNED = 0

abbrev pub CONFIGURED : ℕ
CONFIGURED = 1

abbrev pub BLOCKED_LIFE : ℕ
BLOCKED_LIFE = 2

abbrev pub TEARDOWN : ℕ
TEARDOWN = 3

abbrev pub WRITTEN_BACK : ℕ
WRITTEN_BACK = 4

-- "op state (uninitialized, initialized, runnable)"
abbrev pub UNINITIALIZED : ℕ
UNINITIALIZED = 0

abbrev pub INITIALIZED : ℕ
INITIALIZED = 1

abbrev pub RUNNABLE : ℕ
RUNNABLE = 2

-- "Entry: FREE 0, NL_MAPPED 1, MAPPED 2, PENDING 3, NL_BLOCKED 4, BLOCKED 5, PENDING_BLOCKED 6"
abbrev pub FREE : ℕ
FREE = 0

abbrev pub NL_MAPPED : ℕ
NL_MAPPED = 1

abbrev pub MAPPED : ℕ
MAPPED = 2

abbrev pub PENDING : ℕ
PENDING = 3

abbrev pub NL_BLOCKED : ℕ
NL_BLOCKED = 4

abbrev pub BLOCKED : ℕ
BLOCKED = 5

abbrev pub PENDING_BLOCKED : ℕ
PENDING_BLOCKED = 6
