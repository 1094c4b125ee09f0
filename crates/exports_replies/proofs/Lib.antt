-- What the proof of the writer of each type uses.
mod NoSuchType
