-- What a reader must believe
pub mod Hands
pub mod Numbers
-- What contracts cite beside these: sums of weights, and what is noted at them
pub mod Weights
