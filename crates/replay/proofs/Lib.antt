mod LookUps
mod Parts
