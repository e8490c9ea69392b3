mod Parts
mod Padding
