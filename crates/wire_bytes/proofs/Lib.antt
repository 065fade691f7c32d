mod LeastLen
mod Messages
mod Parts
