-- What a reader must believe: by which table of offsets a flood goes.
pub mod FloodRules
-- What the invariants of types cite: what their private fields hold and stand for
pub mod SameOffsets
